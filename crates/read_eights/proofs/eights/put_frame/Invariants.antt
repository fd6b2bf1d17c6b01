use Prim.Native.Nat.{◌-◌, ◌≤◌}
use native.Mathlib.Omega.{arith}
use Rattle.read_event.specs.Parts.{seats, seating}
use Rattle.read_places.specs.Inner.{frame_at}
use Rattle.read_eights.proofs.Places.{Put, put_rooms, frame_start, frame_next, frame_done}
use Rattle.read_eights.proofs.eights.put_frame.Reads as reads
use Rattle.read_eights.proofs.eights.put_frame.Lts as lts
use Rattle.read_eights.proofs.eights.put_one.Reads as put-one-reads
use Rattle.read_eights.proofs.eights.put_frame.Given as goal

abbrev pub invariant-loop-j : goal.invariant-loop-j
invariant-loop-j l =
    (l.j ≤ l.count) × Put (seats l.initial.pres l.initial.posts l.initial.presence) (seats l.pres l.posts l.presence) (frame_at (seating l.pre l.post l.numbers l.frames) l.file l.places l.t l.j l.n (seats l.initial.pres l.initial.posts l.initial.presence))

abbrev pub decreases-loop-j : goal.decreases-loop-j
decreases-loop-j l = l.count - l.j

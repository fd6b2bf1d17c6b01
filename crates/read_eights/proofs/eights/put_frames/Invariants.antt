use Prim.Native.Nat.{◌-◌, ◌≤◌}
use native.Mathlib.Omega.{arith}
use Rattle.read_event.specs.Parts.{seats, seating}
use Rattle.read_places.specs.Inner.{frames_at}
use Rattle.read_eights.proofs.Places.{Put, put_rooms, frames_start, frames_next, frames_done}
use Rattle.read_eights.proofs.eights.put_frames.Reads as reads
use Rattle.read_eights.proofs.eights.put_frames.Lts as lts
use Rattle.read_eights.proofs.eights.put_frame.Reads as put-frame-reads
use Rattle.read_eights.proofs.eights.put_frames.Given as goal

abbrev pub invariant-loop-t : goal.invariant-loop-t
invariant-loop-t l =
    (l.t ≤ l.many) × Put (seats l.initial.pres l.initial.posts l.initial.presence) (seats l.pres l.posts l.presence) (frames_at (seating l.pre l.post l.numbers l.frames) l.file l.places l.count l.t l.n (seats l.initial.pres l.initial.posts l.initial.presence))

abbrev pub decreases-loop-t : goal.decreases-loop-t
decreases-loop-t l = l.many - l.t

use Prim.Native.Nat.{◌-◌, ◌≤◌}
use native.Mathlib.Omega.{arith}
use Rattle.read_event.specs.Parts.{seats, seating}
use Rattle.read_eights.specs.Inner.{across_at}
use Rattle.read_eights.proofs.Places.{Put, put_rooms, across_start, across_next, across_done}
use Rattle.read_eights.proofs.eights.put_each.Reads as reads
use Rattle.read_eights.proofs.eights.put_each.Lts as lts
use Rattle.read_eights.proofs.eights.put_one.Reads as put-one-reads
use Rattle.read_eights.proofs.eights.put_each.Given as goal

abbrev pub invariant-loop-t : goal.invariant-loop-t
invariant-loop-t l =
    (l.t ≤ 8) × Put (seats l.initial.pres l.initial.posts l.initial.presence) (seats l.pres l.posts l.presence) (across_at (seating l.pre l.post l.numbers l.frames) l.file l.places l.i l.t l.n (seats l.initial.pres l.initial.posts l.initial.presence))

abbrev pub decreases-loop-t : goal.decreases-loop-t
decreases-loop-t l = 8 - l.t

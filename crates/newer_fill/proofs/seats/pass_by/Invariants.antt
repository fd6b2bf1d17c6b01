use mathlib.Core.Path.{◌≡◌, refl, ◌∙◌}
use Prim.Native.Nat.{◌-◌}
use native.Mathlib.Omega.{arith}
use lib.ListN.{length}
use Rattle.read_event.specs.Parts.{seats, seating}
use Rattle.newer_fill.proofs.Passing.{Passing, passing_first, passing_rooms, passing_on, passing_done}
use Rattle.newer_fill.proofs.seats.pass_by.Reads as reads
use Rattle.newer_fill.proofs.seats.pass_by.Lts as lts
use Rattle.newer_places.proofs.scan.find_frames.Reads as find-frames-reads
use Rattle.read_eights.proofs.eights.put_batch.Reads as put-batch-reads
use Rattle.newer_fill.proofs.seats.pass_by.Given as goal

abbrev pub invariant-loop-at : goal.invariant-loop-at
invariant-loop-at l =
    Passing l.z (seating l.pre l.post l.numbers l.frames) l.file l.spans l.first l.stop (seats l.initial.pres l.initial.posts l.initial.presence) (seats l.pres l.posts l.presence) l.places l.o l.at × (length l.places ≡ length l.initial.places)

abbrev pub decreases-loop-at : goal.decreases-loop-at
decreases-loop-at l = l.stop - l.at

-- The invariant: what was found of the first frame was found of so many.
use mathlib.Core.Path.{◌≡◌, refl, ◌∙◌}
use Prim.Native.Nat.{◌-◌, ◌≤◌}
use native.Mathlib.Omega.{arith}
use lib.ListN.{length}
use Rattle.read_event.specs.declared.seen.Open.{Open}
use Rattle.read_places.proofs.Scans.{batch_of}
use Rattle.newer_places.specs.Inner.{Batched}
use Rattle.newer_places.proofs.Scans.{batch_first, batch_kept, batch_more}
use Rattle.newer_places.proofs.scan.find_frames.Reads as reads
use Rattle.newer_places.proofs.scan.find_frames.Lts as lts
use Rattle.newer_places.proofs.scan.scan_frame.Reads as scan-frame-reads
use Rattle.newer_places.proofs.scan.find_frames.Given as goal

abbrev pub invariant-loop-m : goal.invariant-loop-m
invariant-loop-m l =
    ((o : Open) → Batched l.z l.frames l.file l.spans l.at l.stop o l.initial.places (batch_of l.initial.next l.count l.initial.m l.first l.initial.last) → Batched l.z l.frames l.file l.spans l.at l.stop o l.places (batch_of l.next l.count l.m l.first l.last))
    × (length l.places ≡ length l.initial.places)
    × (128 ≤ length l.initial.places)

abbrev pub decreases-loop-m : goal.decreases-loop-m
decreases-loop-m l = 8 - l.m

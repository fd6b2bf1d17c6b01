use mathlib.Core.Path.{◌≡◌}
use Prim.Native.Nat.{◌≤◌}
use lib.ListN.{length}
use Rattle.read_places.specs.Inner.{open_of, Batched}
use Rattle.read_places.proofs.scan.find_frames.Given as goal

abbrev pub invariant-loop-m : goal.invariant-loop-m
invariant-loop-m l = Batched l.z l.start l.frames l.file l.at l.stop (open_of l.was l.id) l.places l.b × (l.b.many ≡ l.m) × (length l.places ≡ length l.initial.places) × (128 ≤ length l.initial.places)

use mathlib.Core.Path.{◌≡◌}
use Prim.Native.Nat.{◌+◌, ◌-◌}
use lib.ListN.{length}
use Rattle.read_places.specs.Inner.{Following}
use Rattle.read_places.proofs.alike.follow.Given as goal

abbrev pub invariant-loop-e : goal.invariant-loop-e
invariant-loop-e l = Following l.z l.frames l.file l.at l.stop l.step l.e l.j l.places × (length l.places ≡ length l.initial.places)

abbrev pub decreases-loop-e : goal.decreases-loop-e
decreases-loop-e l = l.at + l.step - l.e

use Prim.Native.Nat.{◌+◌, ◌-◌}
use Rattle.read_leap.specs.Inner.{Quiet}
use Rattle.read_leap.proofs.leap.ends_at.Given as goal

abbrev pub invariant-loop-e : goal.invariant-loop-e
invariant-loop-e l = Quiet l.z l.file l.at l.stop l.step l.e

abbrev pub decreases-loop-e : goal.decreases-loop-e
decreases-loop-e l = l.at + l.step - l.e

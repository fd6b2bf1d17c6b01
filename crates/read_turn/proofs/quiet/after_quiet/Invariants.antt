-- The invariant: the events so far bring nothing.
use Prim.Native.Nat.{◌-◌}
use Rattle.read_turn.specs.Inner.{Nothing}
use Rattle.read_turn.proofs.quiet.after_quiet.Given as goal

abbrev pub invariant-loop-e : goal.invariant-loop-e
invariant-loop-e l = Nothing l.z l.start l.o l.file l.at l.stop l.e

abbrev pub decreases-loop-e : goal.decreases-loop-e
decreases-loop-e l = l.stop - l.e

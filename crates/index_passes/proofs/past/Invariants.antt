-- The invariant: what was passed has no rows.
use Prim.Native.Nat.{◌-◌}
use native.Mathlib.Omega.{arith}
use Rattle.index_passes.specs.Inner.{Passed}
use Rattle.index_passes.proofs.Laws.{passed_none, passed_one}
use Rattle.index_passes.proofs.past.Given as goal

abbrev pub invariant-loop-p : goal.invariant-loop-p
invariant-loop-p l = Passed l.file l.stop l.place l.p

abbrev pub decreases-loop-p : goal.decreases-loop-p
decreases-loop-p l = l.stop - l.p

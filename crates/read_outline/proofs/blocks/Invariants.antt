-- The invariant: the answer is that of what is left.
use Prim.Native.Nat.{◌-◌}
use Rattle.read_outline.proofs.Laws.{Passing}
use Rattle.read_outline.proofs.blocks.Given as goal

abbrev pub invariant-loop-at : goal.invariant-loop-at
invariant-loop-at l = Passing l.v l.file l.spans l.stop l.first l.at l.n

abbrev pub decreases-loop-at : goal.decreases-loop-at
decreases-loop-at l = l.stop - l.at

-- The loop's invariant: the frames that had their turn have their bytes, and their ids are marked.
use Rattle.rollback.proofs.Turns.{Swept}
use Rattle.rollback.proofs.sweep.Given as goal

abbrev pub invariant-loop-k : goal.invariant-loop-k
invariant-loop-k l = Swept l.keep l.ids l.mask l.marks l.k

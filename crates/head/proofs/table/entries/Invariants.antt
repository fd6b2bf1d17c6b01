-- The invariant: the first i entries stand in both arrays.
use Rattle.head.proofs.Heads.{Filling}
use Rattle.head.proofs.table.entries.Given as goal

abbrev pub invariant-loop-i : goal.invariant-loop-i
invariant-loop-i l = Filling l.file l.codes l.sizes l.i

-- The invariant: the answer is that of the gates to come.
use mathlib.Core.Path.{◌≡◌}
use lib.ListN.{drop}
use Rattle.start.specs.Gate.{gates}
use Rattle.start.specs.Length.{reached, length_of}
use Rattle.start.proofs.length.block_length.Given as goal

abbrev pub invariant-loop-g : goal.invariant-loop-g
invariant-loop-g l = length_of l.v ≡ reached l.v (drop l.g-index gates)

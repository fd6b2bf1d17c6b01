use native.Mathlib.Omega.{arith}
use borrow.Author.Rules.{rules}
use Rattle.start.proofs.Lengths.{at_least}
use Rattle.read_start.specs.Start.{start_in}
use Rattle.read_start.proofs.Parts.{part_same, part_long}
use Rattle.read_start.proofs.start_in.Goals as goal

pub start_of-requires : goal.start_of-requires
start_of-requires c = let a = c.args in let e = part_long a.file.now a.at a.len c.requires.1 in (omega (arith, e, c.requires.0, at_least a.v), omega (arith, e, c.requires.0))

pub returns : goal.returns
returns c = let a = c.args in part_same (start_in a.v) a.file.now a.at a.len c.start_of.ensures

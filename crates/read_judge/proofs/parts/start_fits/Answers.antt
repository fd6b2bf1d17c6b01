use borrow.Author.Rules.{rules}
use native.Mathlib.Omega.{arith}
use Rattle.start.proofs.Lengths.{at_least}
use Rattle.read_judge.proofs.StartLaws.{start_short, start_long}
use Rattle.read_judge.proofs.parts.start_fits.Goals as goal

pub seats_fit-requires : goal.seats_fit-requires
seats_fit-requires c = let a = c.args in (omega (arith, at_least a.v, c.block_length.ensures), c.requires)

pub returns-then-block_length-len : goal.returns-then-block_length-len
returns-then-block_length-len c =
    start_long c.args.v c.args.file.now c.args.at c.args.len c.requires (omega (arith, c.block_length.ensures)) c.seats_fit.result c.seats_fit.ensures

pub returns : goal.returns
returns c =
    start_short c.args.v c.args.file.now c.args.at c.args.len c.requires (omega (arith, c.block_length.ensures))

use borrow.Author.Rules.{rules}
use Rattle.read_start.proofs.Parts.{four_is}
use Rattle.read_start.proofs.part.four_at.Goals as goal

pub returns : goal.returns
returns c = four_is c.args.block.now c.args.at c.requires

use borrow.Author.Rules.{rules}
use Rattle.read_start.proofs.Parts.{five_is}
use Rattle.read_start.proofs.part.five_at.Goals as goal

pub returns : goal.returns
returns c = five_is c.args.block.now c.args.at c.requires

use borrow.Author.Rules.{rules}
use Rattle.read_start.proofs.Types.{types_said}
use Rattle.read_start.proofs.block.types_fit.Goals as goal

pub returns : goal.returns
returns c = types_said c.args.block.now

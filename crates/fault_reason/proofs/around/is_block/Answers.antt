use Rattle.format.proofs.Versions.{no_way}
use Rattle.fault_reason.proofs.Laws.{block_is, block_not}
use borrow.Author.Rules.{rules}
use Rattle.fault_reason.proofs.around.is_block.Goals as goal

pub returns-then-p-eq516 : goal.returns-then-p-eq516
returns-then-p-eq516 c = (block_is _ c.if-p-eq516.true, λ q. c.if-p-eq516.true)

pub returns : goal.returns
returns c = (block_not _ c.if-p-eq516.false, λ q. no_way q)

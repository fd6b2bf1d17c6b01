use Rattle.repair_head.proofs.Laws.{top_none}
use borrow.Author.Rules.{rules}
use Rattle.repair_head.proofs.open_head.Reads as reads
use Rattle.repair_head.proofs.open_head.Lts as lts
use Rattle.repair_head.proofs.open_in.Reads as open-in-reads
use Rattle.repair_head.proofs.open_head.Goals as goal

-- src/lib.rt:61:9
pub returns-then-file-lt15 : goal.returns-then-file-lt15
returns-then-file-lt15 c = top_none _ _ c.if-file-lt15.true

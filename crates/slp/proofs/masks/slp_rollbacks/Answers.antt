use Rattle.slp.proofs.Laws.{mask_outcome}
use borrow.Author.Rules.{rules}
use Rattle.slp.proofs.masks.slp_rollbacks.Reads as reads
use Rattle.slp.proofs.masks.slp_rollbacks.Lts as lts
use Rattle.rollback.proofs.rollbacks.Reads as rollbacks-reads
use Rattle.answers.proofs.mask.mask_number.Reads as mask-number-reads
use Rattle.answers.proofs.mask.rollbacks_of.Reads as rollbacks-of-reads
use Rattle.slp.proofs.masks.slp_rollbacks.Goals as goal

-- src/masks.rt:29:1
pub returns : goal.returns
returns c = mask_outcome c.rollbacks_of.ensures c.rollbacks.ensures c.by_number.ensures c.mask_number.ensures

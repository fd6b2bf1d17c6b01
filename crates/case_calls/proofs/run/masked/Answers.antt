use borrow.Author.Rules.{rules}
use Rattle.case_calls.proofs.RowLaws.{mask_row}
use Rattle.case_calls.proofs.run.masked.Goals as goal

pub returns : goal.returns
returns c =
    mask_row _ _ _ _ _ _ c.rollbacks-m.ensures c.mask_number.ensures c.wide.ensures.0 c.wide-2.ensures.0 c.wide-3.ensures.0 c.wide-4.ensures.0

use borrow.Author.Rules.{rules}
use Rattle.case_calls.proofs.RowLaws.{done_row, refused_row}
use Rattle.case_calls.proofs.row.walk_row.Goals as goal

pub returns-in-Done : goal.returns-in-Done
returns-in-Done c = done_row _ _ _ _ _ _ _ c.walk-w.ensures c.in-Done.is c.flag.ensures

pub returns-in-Refused : goal.returns-in-Refused
returns-in-Refused c = refused_row _ _ _ _ c.walk-w.ensures c.in-Refused.is

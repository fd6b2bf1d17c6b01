use Rattle.read_order.proofs.Steps.{row_same}
use Rattle.read_order.proofs.step.with_row.Goals as goal

pub returns : goal.returns
returns c = let a = c.args in let h = c.requires in row_same a.file.now a.span a.m a.rank a.w a.next h.0 h.1

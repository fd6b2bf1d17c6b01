use Rattle.read_scan.proofs.Turns.{ends_here, ends_not}
use Rattle.read_scan.proofs.ended.Goals as goal

pub returns-then-is_closed : goal.returns-then-is_closed
returns-then-is_closed c = let a = c.args in ends_here a.v a.m a.at a.t c.is_closed.result c.is_closed.ensures c.if-is_closed.true

pub returns : goal.returns
returns c = let a = c.args in ends_not a.v a.m a.at a.t c.is_closed.result c.is_closed.ensures c.if-is_closed.false

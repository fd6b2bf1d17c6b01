use Rattle.newer_order.proofs.Laws.{inside_is}
use Rattle.newer_order.proofs.stage.is_inside.Goals as goal

pub returns : goal.returns
returns c = let a = c.args in inside_is a.m a.w a.rank

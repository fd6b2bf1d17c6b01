use Rattle.newer_order.proofs.Laws.{closed_is}
use Rattle.newer_order.proofs.stage.is_closed.Goals as goal

pub returns : goal.returns
returns c = closed_is c.args.m

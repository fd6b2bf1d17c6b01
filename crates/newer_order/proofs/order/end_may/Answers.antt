use Rattle.newer_order.proofs.Laws.{end_is}
use borrow.Author.Rules.{rules}
use Rattle.newer_order.proofs.order.end_may.Goals as goal

pub returns : goal.returns
returns c = let a = c.args in let i = c.is_inside in end_is a.m a.w i.result i.ensures

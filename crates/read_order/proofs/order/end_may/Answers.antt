use Rattle.read_order.proofs.Steps.{end_is, end_not}
use Rattle.read_order.proofs.order.end_may.Goals as goal

pub returns-then-is_inside : goal.returns-then-is_inside
returns-then-is_inside c = let a = c.args in let i = c.is_inside in end_is a.m a.w i.result i.ensures c.if-is_inside.true

pub returns : goal.returns
returns c = let a = c.args in let i = c.is_inside in end_not a.m a.w i.result i.ensures c.if-is_inside.false

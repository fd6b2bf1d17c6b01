use Rattle.read_order.proofs.Steps.{stands_inside, stands_not, stands_closed}
use Rattle.read_order.proofs.order.may_stand.Goals as goal

pub returns-then-is_inside : goal.returns-then-is_inside
returns-then-is_inside c = let a = c.args in let i = c.is_inside in stands_inside a.v a.m a.w i.result i.ensures c.if-is_inside.true

pub returns-then-exists : goal.returns-then-exists
returns-then-exists c =
    let a = c.args in
    let i = c.is_inside in
    let s = c.exists in
    stands_not a.v a.m a.w i.result i.ensures c.if-is_inside.false s.result s.ensures c.if-exists.true

pub returns : goal.returns
returns c =
    let a = c.args in
    let i = c.is_inside in
    let s = c.exists in
    stands_closed a.v a.m a.w i.result i.ensures c.if-is_inside.false s.result s.ensures c.if-exists.false c.is_closed.result c.is_closed.ensures

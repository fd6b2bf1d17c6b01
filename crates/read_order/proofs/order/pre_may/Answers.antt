use Rattle.read_order.proofs.Steps.{pre_not, pre_nobody, pre_may}
use Rattle.read_order.proofs.order.pre_may.Goals as goal

pub returns-then-is_player : goal.returns-then-is_player
returns-then-is_player c =
    let a = c.args in
    let q = c.may_stand in
    let p = c.is_player in
    pre_may a.v _ a.file.now a.span a.m a.w q.result p.result c.may_come.result q.ensures c.if-may_stand.true p.ensures c.if-is_player.true
    c.slot.result c.slot.ensures c.may_come.ensures

pub returns-else-is_player : goal.returns-else-is_player
returns-else-is_player c =
    let a = c.args in
    let q = c.may_stand in
    let p = c.is_player in
    pre_nobody a.v _ a.file.now a.span a.m a.w q.result p.result p.result q.ensures c.if-may_stand.true p.ensures c.if-is_player.false

pub returns-else-may_stand : goal.returns-else-may_stand
returns-else-may_stand c =
    let a = c.args in
    let q = c.may_stand in
    pre_not a.v _ a.file.now a.span a.m a.w q.result q.result q.result q.ensures c.if-may_stand.false

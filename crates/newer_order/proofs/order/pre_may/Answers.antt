use Rattle.newer_order.proofs.Laws.{pre_is}
use borrow.Author.Rules.{rules}
use Rattle.newer_order.proofs.order.pre_may.Goals as goal

pub returns : goal.returns
returns c =
    let a = c.args in
    let i = c.is_inside in
    let p = c.is_player in
    pre_is a.m a.w c.requires i.result p.result i.ensures p.ensures c.slot.result c.slot.ensures

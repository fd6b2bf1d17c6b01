use native.Mathlib.Omega.{arith}
use lib.ListN.{length}
use Rattle.read_order.proofs.Laws.{room_go}
use Rattle.read_order.proofs.Steps.{next_is, next_not, third}
use Rattle.read_order.proofs.order.post_may.Goals as goal

pub slot_at-requires : goal.slot_at-requires
slot_at-requires c =
    let a = c.args in
    omega (arith, room_go a.m.pre a.m.due a.span (length a.file.now) (third c.is_inside.result c.is_player.result a.m.due c.if-is_inside-is_player.true) c.requires.1)

pub returns-then-is_inside-is_player : goal.returns-then-is_inside-is_player
returns-then-is_inside-is_player c =
    let a = c.args in
    let i = c.is_inside in
    let p = c.is_player in
    next_is a.file.now a.span a.m a.w i.result p.result i.ensures p.ensures c.if-is_inside-is_player.true c.slot_at.result c.slot.result
    c.slot_at.ensures.0 c.slot.ensures

pub returns : goal.returns
returns c =
    let a = c.args in
    let i = c.is_inside in
    let p = c.is_player in
    next_not a.file.now a.span a.m a.w i.result p.result i.ensures p.ensures c.if-is_inside-is_player.false

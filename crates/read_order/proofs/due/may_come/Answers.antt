use mathlib.Core.Path.{refl, sym, ◌∙◌}
use native.Mathlib.Omega.{arith}
use lib.ListN.{length}
use Rattle.read_order.specs.Inner.{order_of}
use Rattle.read_order.proofs.Laws.{room_go, due_go, due_stop, due_done}
use Rattle.read_order.proofs.due.may_come.Goals as goal

pub loop-n-init : goal.loop-n-init
loop-n-init c = (omega arith, refl)

pub slot_at-j-requires : goal.slot_at-j-requires
slot_at-j-requires c =
    let l = c.loop-n in
    let a = c.args in
    omega (arith, room_go l.p l.n a.span (length a.file.now) (omega arith) l.invariant.0)

pub overflow_add-p : goal.overflow_add-p
overflow_add-p c =
    let l = c.loop-n in
    let a = c.args in
    omega (arith, room_go l.p l.n a.span (length a.file.now) (omega arith) l.invariant.0)

pub loop-n-preserved : goal.loop-n-preserved
loop-n-preserved c =
    let j = c.slot_at-j in
    let l = c.loop-n in
    let a = c.args in (
      (room_go l.p l.n a.span (length a.file.now) (omega arith) l.invariant.0).0,
      l.invariant.1 ∙ due_go (order_of a.order) a.file.now a.span l.p a.k l.n (omega arith) j.result j.ensures.0 c.stands_before.result
          c.stands_before.ensures c.if-not-stands_before.false,
    )

pub returns-then-not-stands_before : goal.returns-then-not-stands_before
returns-then-not-stands_before c =
    let j = c.slot_at-j in
    let l = c.loop-n in
    let a = c.args in
    sym (l.invariant.1 ∙ due_stop (order_of a.order) a.file.now a.span l.p a.k l.n (omega arith) j.result j.ensures.0 c.stands_before.result c.stands_before.ensures c.if-not-stands_before.true)

pub returns : goal.returns
returns c =
    let l = c.loop-n in
    let a = c.args in
    sym (l.invariant.1 ∙ due_done (order_of a.order) a.file.now a.span l.p a.k l.n (omega arith))

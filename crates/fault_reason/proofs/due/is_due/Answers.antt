use mathlib.Core.Path.{◌≡◌, refl, sym, ◌∙◌}
use Prim.Native.Nat.{◌+◌, ◌*◌, ◌≤◌}
use native.Mathlib.Omega.{arith}
use lib.ListN.{length}
use Rattle.read_order.specs.Inner.{due_in}
use Rattle.read_order.proofs.Laws.{room_go}
use Rattle.fault_reason.specs.Reason.{is_due}
use Rattle.fault_reason.proofs.Laws.{due_here, due_on, due_none}
use Rattle.fault_reason.proofs.due.is_due.Goals as goal

pub loop-n-init : goal.loop-n-init
loop-n-init c = (omega arith, refl)

pub slot_at-j-requires : goal.slot_at-j-requires
slot_at-j-requires c =
    let l = c.loop-n in
    let a = c.args in
    omega (arith, room_go l.p l.n a.span (length a.file.now) (omega arith) l.invariant.0)

pub returns-then-j-k : goal.returns-then-j-k
returns-then-j-k c =
    let l = c.loop-n in
    let a = c.args in
    let j = c.slot_at-j in
    sym (l.invariant.1 ∙ due_here a.file.now a.span l.p a.k l.n c.loop-n-test.true j.result j.ensures.0 c.if-j-k.true)

pub overflow_add-p : goal.overflow_add-p
overflow_add-p c =
    let l = c.loop-n in
    let a = c.args in
    omega (arith, room_go l.p l.n a.span (length a.file.now) (omega arith) l.invariant.0)

pub loop-n-preserved : goal.loop-n-preserved
loop-n-preserved c =
    let l = c.loop-n in
    let a = c.args in
    let j = c.slot_at-j in (
      (room_go l.p l.n a.span (length a.file.now) (omega arith) l.invariant.0).0,
      l.invariant.1 ∙ due_on a.file.now a.span l.p a.k l.n c.loop-n-test.true j.result j.ensures.0 c.if-j-k.false,
    )

pub returns : goal.returns
returns c =
    let l = c.loop-n in
    let a = c.args in
    sym (l.invariant.1 ∙ due_none a.file.now a.span l.p a.k l.n (omega arith))

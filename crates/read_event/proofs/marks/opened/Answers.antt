use native.Mathlib.Omega.{arith}
use Rattle.read_event.proofs.Leaves.{opened_on, opened_off}
use Rattle.read_event.proofs.marks.opened.Goals as goal

pub overflow_add-result : goal.overflow_add-result
overflow_add-result c = omega (arith, c.requires c.if-on.true)

pub returns-then-on : goal.returns-then-on
returns-then-on c = opened_on _ _ _ c.if-on.true

pub returns : goal.returns
returns c = opened_off _ _ _ c.if-on.false

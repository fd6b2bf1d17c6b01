use native.Mathlib.Omega.{arith}
use Rattle.read_event.proofs.Leaves.{mark_on, mark_out, mark_off}
use Rattle.read_event.proofs.marks.mark.Goals as goal

pub returns-then-n-cells : goal.returns-then-n-cells
returns-then-n-cells c = mark_on _ _ _ _ c.if-on.true

pub returns-else-n-cells : goal.returns-else-n-cells
returns-else-n-cells c = mark_out _ _ _ _ c.if-on.true (omega arith)

pub returns-else-on : goal.returns-else-on
returns-else-on c = mark_off _ _ _ _ c.if-on.false

use native.Mathlib.Omega.{arith}
use Rattle.read_event.proofs.Leaves.{first_late, first_start, first_other, first_ever, first_changed}
use Rattle.read_event.proofs.marks.is_first.Goals as goal

pub returns-then-frames-o : goal.returns-then-frames-o
returns-then-frames-o c = first_late _ _ _ _ _ (omega arith)

pub returns-then-start : goal.returns-then-start
returns-then-start c = first_start _ _ _ _ _ (omega arith) c.if-start.true

pub returns-then-code-ne-FRAME_PRE : goal.returns-then-code-ne-FRAME_PRE
returns-then-code-ne-FRAME_PRE c = first_other _ _ _ _ _ c.if-start.false c.if-code-ne-FRAME_PRE.true

pub returns-then-o-eq0 : goal.returns-then-o-eq0
returns-then-o-eq0 c = first_ever _ _ _ _ _ (omega arith) c.if-start.false (omega arith) (omega arith)

pub returns : goal.returns
returns c = first_changed _ _ _ _ _ (omega arith) c.if-start.false (omega arith) (λ e. absurd (omega arith))

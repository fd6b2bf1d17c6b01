use native.Mathlib.Omega.{arith}
use Rattle.format.proofs.Versions.{no_way}
use Rattle.read_event.proofs.Quiet.{stay_same}
use Rattle.read_turn.proofs.Turns.{stay_start, stay_post}
use Rattle.read_turn.proofs.quiet.is_quiet.Goals as goal

pub returns-then-code-eq-FRAME_POST : goal.returns-then-code-eq-FRAME_POST
returns-then-code-eq-FRAME_POST c = λ e. (omega (arith, c.if-code-eq-FRAME_POST.true), λ frames. stay_post _ frames _ _ _ c.if-code-eq-FRAME_POST.true)

pub returns-then-code-ne-FRAME_PRE : goal.returns-then-code-ne-FRAME_PRE
returns-then-code-ne-FRAME_PRE c = λ e. no_way e

pub returns-then-start : goal.returns-then-start
returns-then-start c = λ e. (omega (arith, c.if-code-ne-FRAME_PRE.false), λ frames. stay_start _ frames _ _ _ c.if-start.true (omega (arith, c.if-code-ne-FRAME_PRE.false)))

pub returns-then-o-eq0 : goal.returns-then-o-eq0
returns-then-o-eq0 c = λ e. no_way e

pub returns : goal.returns
returns c =
    λ e. (omega (arith, c.if-code-ne-FRAME_PRE.false), λ frames. stay_same _ frames _ _ _ c.if-start.false c.if-code-ne-FRAME_PRE.false c.if-o-eq0.false c.get_be.ensures e)

use native.Mathlib.Omega.{arith}
use mathlib.Core.Path.{sym, ◌∙◌}
use Rattle.head.proofs.Steps.{unlisted, fits, overruns}
use Rattle.head.proofs.event_at.Goals as goal

pub returns-then-span-eq0 : goal.returns-then-span-eq0
returns-then-span-eq0 c = (sym (unlisted _ _ _ _ _ c.if-span-eq0.true), tt)

pub returns-then-span-stop : goal.returns-then-span-stop
returns-then-span-stop c = (sym (fits _ _ _ _ _ c.if-span-eq0.false (omega arith)), (omega arith, omega arith))

pub returns-then-whole : goal.returns-then-whole
returns-then-whole c = (sym (overruns _ _ _ _ _ c.if-span-eq0.false (omega arith) ∙ rw c.if-whole.true), tt)

pub returns-else-whole : goal.returns-else-whole
returns-else-whole c = (sym (overruns _ _ _ _ _ c.if-span-eq0.false (omega arith) ∙ rw c.if-whole.false), tt)

use borrow.Author.Tests.{eq-eqb, ne_eqb}
use Rattle.answers.proofs.mask.rollbacks_of.Goals as goal

-- src/mask.rt:9:1
pub returns-then-keep-eq0 : goal.returns-then-keep-eq0
returns-then-keep-eq0 c = simp (eq-eqb _ _ c.if-keep-eq0.true)

-- src/mask.rt:9:1
pub returns-else-keep-eq0 : goal.returns-else-keep-eq0
returns-else-keep-eq0 c = simp (ne_eqb _ _ c.if-keep-eq0.false)

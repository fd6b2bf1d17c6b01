use borrow.Author.Tests.{eq-eqb, ne_eqb}
use Rattle.ending.specs.End.{placement_of}
use Rattle.ending.proofs.end.placement.Goals as goal

pub returns-then-e-i-eq0 : goal.returns-then-e-i-eq0
unfolding placement_of
returns-then-e-i-eq0 c = rw (eq-eqb _ _ c.if-e-i-eq0.true)

pub returns : goal.returns
unfolding placement_of
returns c = rw (ne_eqb _ _ c.if-e-i-eq0.false)

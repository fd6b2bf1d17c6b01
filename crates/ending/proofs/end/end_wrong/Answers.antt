use mathlib.Core.Path.{sym, ◌∙◌}
use mathlib.Core.Bool.{true, false}
use Rattle.ending.proofs.Laws.{wrong_without, wrong_with}
use Rattle.ending.proofs.end.end_wrong.Goals as goal

pub returns-then-e-eq0 : goal.returns-then-e-eq0
returns-then-e-eq0 c = wrong_without _ _ _ c.if-e-eq0.true

pub returns-then-has_initiator : goal.returns-then-has_initiator
returns-then-has_initiator c = c.initiator_wrong.ensures ∙ wrong_with _ _ _ true c.if-e-eq0.false (sym c.has_initiator.ensures ∙ c.if-has_initiator.true)

pub returns : goal.returns
returns c = wrong_with _ _ _ false c.if-e-eq0.false (sym c.has_initiator.ensures ∙ c.if-has_initiator.false)

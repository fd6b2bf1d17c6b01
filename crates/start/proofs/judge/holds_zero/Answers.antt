use mathlib.Core.Path.{◌∙◌}
use Rattle.patch.specs.Field.{zero_inside}
use Rattle.start.specs.Refusal.{holds_zero}
use Rattle.start.proofs.Refusals.{asked_on, asked_off}
use Rattle.start.proofs.judge.holds_zero.Goals as goal

pub returns-then-reached : goal.returns-then-reached
unfolding holds_zero zero_inside
returns-then-reached c = c.counts_zero.ensures ∙ asked_on _ _ _ c.reached.ensures c.if-reached.true

pub returns : goal.returns
unfolding holds_zero
returns c = search asked_off

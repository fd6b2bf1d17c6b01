use Rattle.start.specs.Refusal.{too_long}
use Rattle.start.proofs.Refusals.{asked_on, asked_off}
use Rattle.start.proofs.judge.is_too_long.Goals as goal

pub returns-then-reached : goal.returns-then-reached
unfolding too_long
returns-then-reached c = search asked_on

pub returns : goal.returns
unfolding too_long
returns c = search asked_off

use Rattle.start.specs.Refusal.{missing}
use Rattle.start.proofs.Refusals.{asked_on, asked_off}
use Rattle.start.proofs.judge.is_missing.Goals as goal

pub returns-then-reached : goal.returns-then-reached
unfolding missing
returns-then-reached c = search asked_on

pub returns : goal.returns
unfolding missing
returns c = search asked_off

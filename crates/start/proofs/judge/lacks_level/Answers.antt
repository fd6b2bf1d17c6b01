use Rattle.start.specs.Refusal.{cpu_without_level}
use Rattle.start.proofs.Refusals.{equal_on, equal_off}
use Rattle.start.proofs.judge.lacks_level.Goals as goal

pub returns-then-p-eq1 : goal.returns-then-p-eq1
unfolding cpu_without_level
returns-then-p-eq1 c = search equal_on

pub returns : goal.returns
unfolding cpu_without_level
returns c = search equal_off

use Rattle.start.specs.Refusal.{field_missing}
use Rattle.start.proofs.Refusals.{tests}
use Rattle.start.proofs.judge.lacks_field.Goals as goal

pub returns-then-is_missing : goal.returns-then-is_missing
unfolding field_missing
returns-then-is_missing c = search tests depth 9

pub returns-then-is_missing-2 : goal.returns-then-is_missing-2
unfolding field_missing
returns-then-is_missing-2 c = search tests depth 9

pub returns-then-is_missing-3 : goal.returns-then-is_missing-3
unfolding field_missing
returns-then-is_missing-3 c = search tests depth 9

pub returns : goal.returns
unfolding field_missing
returns c = search tests depth 9

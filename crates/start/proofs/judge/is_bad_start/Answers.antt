use Rattle.start.specs.Refusal.{bad_start}
use Rattle.start.proofs.Refusals.{tests}
use Rattle.start.proofs.judge.is_bad_start.Goals as goal

pub returns-then-has_bad_seat : goal.returns-then-has_bad_seat
unfolding bad_start
returns-then-has_bad_seat c = search tests depth 9

pub returns-then-is_missing : goal.returns-then-is_missing
unfolding bad_start
returns-then-is_missing c = search tests depth 9

pub returns-then-is_missing-2 : goal.returns-then-is_missing-2
unfolding bad_start
returns-then-is_missing-2 c = search tests depth 9

pub returns-then-is_missing-3 : goal.returns-then-is_missing-3
unfolding bad_start
returns-then-is_missing-3 c = search tests depth 9

pub returns-then-is_missing-4 : goal.returns-then-is_missing-4
unfolding bad_start
returns-then-is_missing-4 c = search tests depth 9

pub returns-then-is_missing-5 : goal.returns-then-is_missing-5
unfolding bad_start
returns-then-is_missing-5 c = search tests depth 9

pub returns-then-is_too_long : goal.returns-then-is_too_long
unfolding bad_start
returns-then-is_too_long c = search tests depth 9

pub returns : goal.returns
unfolding bad_start
returns c = search tests depth 9

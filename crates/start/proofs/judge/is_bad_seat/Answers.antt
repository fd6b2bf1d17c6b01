use Rattle.start.specs.Refusal.{bad_seat, type_above2}
use Rattle.start.proofs.Refusals.{tests, given_on, given_off}
use Rattle.start.proofs.judge.is_bad_seat.Goals as goal

pub returns-then-p-eq0 : goal.returns-then-p-eq0
unfolding bad_seat type_above2
returns-then-p-eq0 c = search given_off

pub returns-then-lacks_field : goal.returns-then-lacks_field
unfolding bad_seat type_above2
returns-then-lacks_field c = search (given_on, tests) depth 9

pub returns-then-p-gt2 : goal.returns-then-p-gt2
unfolding bad_seat type_above2
returns-then-p-gt2 c = search (given_on, tests) depth 9

pub returns-then-lacks_level : goal.returns-then-lacks_level
unfolding bad_seat type_above2
returns-then-lacks_level c = search (given_on, tests) depth 9

pub returns-then-has_long_text : goal.returns-then-has_long_text
unfolding bad_seat type_above2
returns-then-has_long_text c = search (given_on, tests) depth 9

pub returns : goal.returns
unfolding bad_seat type_above2
returns c = search (given_on, tests) depth 9

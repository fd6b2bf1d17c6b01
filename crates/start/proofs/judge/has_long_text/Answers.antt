use Rattle.start.specs.Refusal.{text_too_long}
use Rattle.start.proofs.Refusals.{tests}
use Rattle.start.proofs.judge.has_long_text.Goals as goal

pub returns-then-is_too_long : goal.returns-then-is_too_long
unfolding text_too_long
returns-then-is_too_long c = search tests depth 9

pub returns-then-is_too_long-2 : goal.returns-then-is_too_long-2
unfolding text_too_long
returns-then-is_too_long-2 c = search tests depth 9

pub returns-then-is_too_long-3 : goal.returns-then-is_too_long-3
unfolding text_too_long
returns-then-is_too_long-3 c = search tests depth 9

pub returns : goal.returns
unfolding text_too_long
returns c = search tests depth 9

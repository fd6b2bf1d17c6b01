use Rattle.start.specs.Refusal.{text_holds_zero}
use Rattle.start.proofs.Refusals.{tests}
use Rattle.start.proofs.judge.has_text_with_zero.Goals as goal

pub returns-then-holds_zero : goal.returns-then-holds_zero
unfolding text_holds_zero
returns-then-holds_zero c = search tests depth 9

pub returns-then-holds_zero-2 : goal.returns-then-holds_zero-2
unfolding text_holds_zero
returns-then-holds_zero-2 c = search tests depth 9

pub returns-then-holds_zero-3 : goal.returns-then-holds_zero-3
unfolding text_holds_zero
returns-then-holds_zero-3 c = search tests depth 9

pub returns : goal.returns
unfolding text_holds_zero
returns c = search tests depth 9

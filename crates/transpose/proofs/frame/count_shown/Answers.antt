use Rattle.transpose.proofs.Shown.{given_none, given_row}
use Rattle.transpose.proofs.frame.count_shown.Goals as goal

pub returns-then-n-ne0 : goal.returns-then-n-ne0
returns-then-n-ne0 c = given_none _ _ _ c.if-n-ne0.true

pub returns : goal.returns
returns c = given_row _ _ _ c.if-n-ne0.false

use Rattle.map.proofs.Laws.{lower_first, lower_second}
use Rattle.map.proofs.judge.lower.Goals as goal

pub returns-in_default : goal.returns-in_default
returns-in_default c = lower_first _ c.in_default.is

pub returns-in_default-b : goal.returns-in_default-b
returns-in_default-b c = lower_second c.in-Some.is c.in_default-b.is

pub returns : goal.returns
returns c = rw (c.in-Some.is, c.in-Some-b.is) c.lower_of.ensures

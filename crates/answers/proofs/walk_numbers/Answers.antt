use Rattle.answers.proofs.Laws.{walk_done}
use mathlib.Core.Path.{sym, ap}
use Rattle.answers.specs.Answers.{walked}
use Rattle.answers.proofs.walk_numbers.Goals as goal

-- src/answers.rt:85:1
pub returns-in-Done : goal.returns-in-Done
returns-in-Done c = walk_done c.mark.ensures c.in-Done.is

-- src/answers.rt:85:1
pub returns-in-Refused : goal.returns-in-Refused
returns-in-Refused c = sym (ap walked c.in-Refused.is)

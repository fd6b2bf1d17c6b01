use mathlib.Core.Path.{◌∙◌, sym, ap}
use Rattle.answers.specs.Answers.{stepped}
use Rattle.answers.proofs.step_numbers.Goals as goal

-- src/answers.rt:52:1
pub returns-in-Event : goal.returns-in-Event
returns-in-Event c = sym (ap stepped c.in-Event.is)

-- src/answers.rt:52:1
pub returns-in-Ends : goal.returns-in-Ends
returns-in-Ends c = c.bare.ensures ∙ sym (ap stepped c.in-Ends.is)

-- src/answers.rt:52:1
pub returns-in-Cut : goal.returns-in-Cut
returns-in-Cut c = c.bare-in-Cut.ensures ∙ sym (ap stepped c.in-Cut.is)

-- src/answers.rt:52:1
pub returns-in-Refused : goal.returns-in-Refused
returns-in-Refused c = c.bare-in-Refused.ensures ∙ sym (ap stepped c.in-Refused.is)

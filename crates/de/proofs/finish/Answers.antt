use Rattle.de.proofs.Runs.{cut_answer}
use Rattle.de.proofs.finish.Goals as goal

pub returns-in-Ends : goal.returns-in-Ends
returns-in-Ends c = rw c.in-Ends.is

pub returns-in-Refused : goal.returns-in-Refused
returns-in-Refused c = rw c.in-Refused.is

pub returns-in-Cut : goal.returns-in-Cut
returns-in-Cut c = cut_answer _ _ _ c.args.done.last c.in-Cut.in-Cut-own.keys3

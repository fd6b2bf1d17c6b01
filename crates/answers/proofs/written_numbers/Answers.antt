use mathlib.Core.Path.{sym, ap}
use Rattle.answers.specs.Answers.{written}
use Rattle.answers.proofs.written_numbers.Goals as goal

pub returns-in-Ok : goal.returns-in-Ok
returns-in-Ok c = sym (ap written c.in-Ok.is)

pub returns-in-Err : goal.returns-in-Err
returns-in-Err c = sym (ap written c.in-Err.is)

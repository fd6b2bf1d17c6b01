use mathlib.Core.Path.{sym, ap}
use Rattle.answers.specs.Answers.{appended_as}
use Rattle.answers.proofs.appended_numbers.Goals as goal

pub returns-in-Ok : goal.returns-in-Ok
returns-in-Ok c = sym (ap appended_as c.in-Ok.is)

pub returns-in-Err : goal.returns-in-Err
returns-in-Err c = sym (ap appended_as c.in-Err.is)

use mathlib.Core.Path.{◌∙◌, sym, ap}
use Rattle.answers.specs.Answers.{step_struct}
use borrow.Author.Rules.{rules}
use Rattle.slp.proofs.walk.slp_step_at.Reads as reads
use Rattle.slp.proofs.walk.slp_step_at.Lts as lts
use Rattle.de.proofs.step_at.Reads as step-at-reads
use Rattle.answers.proofs.step_numbers.Reads as step-numbers-reads
use Rattle.slp.proofs.walk.slp_step_at.Goals as goal

-- src/walk.rt:11:1
pub returns : goal.returns
returns c = c.step_numbers.ensures ∙ ap step_struct c.step_at.ensures

use mathlib.Core.Path.{◌∙◌, sym, ap}
use Rattle.answers.specs.Answers.{walk_struct}
use borrow.Author.Rules.{rules}
use Rattle.slp.proofs.walk.slp_walk.Reads as reads
use Rattle.slp.proofs.walk.slp_walk.Lts as lts
use Rattle.de.proofs.walk.Reads as walk-reads
use Rattle.answers.proofs.walk_numbers.Reads as walk-numbers-reads
use Rattle.slp.proofs.walk.slp_walk.Goals as goal

-- src/walk.rt:18:1
pub returns : goal.returns
returns c = c.walk_numbers.ensures ∙ ap walk_struct c.walk.ensures

use mathlib.Core.Bool.{true, false}
use borrow.Author.Rules.{rules}
use Rattle.format.specs.Mark.{mark_if}
use Rattle.read_start.proofs.Parts.{chosen}
use Rattle.read_start.proofs.part.mark_of.Goals as goal

pub returns-then-reached : goal.returns-then-reached
returns-then-reached c = chosen mark_if true c.reached.ensures c.if-reached.true

pub returns : goal.returns
returns c = chosen mark_if false c.reached.ensures c.if-reached.false

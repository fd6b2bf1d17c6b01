use mathlib.Core.Path.{sym, ◌∙◌}
use borrow.Author.Rules.{rules}
use Rattle.measure.proofs.answer.partly_by.Goals as goal

pub returns-then-accepted : goal.returns-then-accepted
returns-then-accepted c = rw (sym c.accepted.ensures ∙ c.if-accepted.true)

pub returns : goal.returns
returns c = rw (sym c.accepted.ensures ∙ c.if-accepted.false)

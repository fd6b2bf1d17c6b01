use mathlib.Core.Path.{sym, ap, ◌∙◌}
use mathlib.Core.Bool.{Bool, cond}
use Rattle.read_scan.specs.declared.Ran.TheVariants.{Ended, Wrong}
use borrow.Author.Rules.{rules}
use Rattle.newer_scan.proofs.ended.Goals as goal

pub returns-then-is_closed : goal.returns-then-is_closed
returns-then-is_closed c = let a = c.args in ap (λ (b : Bool). cond b (Ended a.at a.t) Wrong) (sym c.if-is_closed.true ∙ c.is_closed.ensures)

pub returns : goal.returns
returns c = let a = c.args in ap (λ (b : Bool). cond b (Ended a.at a.t) Wrong) (sym c.if-is_closed.false ∙ c.is_closed.ensures)

use mathlib.Core.Path.{refl, sym, ◌∙◌}
use Rattle.fault_reason.proofs.Laws.{if_so, if_not}
use borrow.Author.Rules.{rules}
use Rattle.fault_reason.proofs.rows.last_reason.Goals as goal

pub returns-then-is_inside : goal.returns-then-is_inside
returns-then-is_inside c = if_so _ _ _ _ (sym c.is_inside.ensures ∙ c.if-is_inside.true) refl

pub returns : goal.returns
returns c = if_not _ _ _ _ (sym c.is_inside.ensures ∙ c.if-is_inside.false) c.place_reason.ensures

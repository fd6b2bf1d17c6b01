use mathlib.Core.Path.{refl, sym, ◌∙◌}
use Rattle.fault_reason.proofs.Laws.{if_so, if_not}
use borrow.Author.Rules.{rules}
use Rattle.fault_scan.proofs.pass.last_reason.Goals as goal

pub returns-then-whole : goal.returns-then-whole
returns-then-whole c = if_so _ _ _ _ (sym c.is_done.ensures ∙ c.if-is_done.true) (if_so _ _ _ _ c.if-whole.true refl)

pub returns-then-is_done : goal.returns-then-is_done
returns-then-is_done c = if_so _ _ _ _ (sym c.is_done.ensures ∙ c.if-is_done.true) (if_not _ _ _ _ c.if-whole.false refl)

pub returns : goal.returns
returns c = if_not _ _ _ _ (sym c.is_done.ensures ∙ c.if-is_done.false) refl

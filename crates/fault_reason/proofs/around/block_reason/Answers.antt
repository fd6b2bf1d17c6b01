use mathlib.Core.Path.{refl, sym, ◌∙◌}
use borrow.Author.Tests.{eq-eqb, ne_eqb}
use Rattle.fault_reason.proofs.Laws.{if_so, if_not}
use borrow.Author.Rules.{rules}
use Rattle.fault_reason.proofs.around.block_reason.Goals as goal

pub returns-then-listed-eq0 : goal.returns-then-listed-eq0
returns-then-listed-eq0 c = if_so _ _ _ _ (sym c.has_codes.ensures ∙ c.if-has_codes.true) (if_so _ _ _ _ (eq-eqb _ _ c.if-p-eq516.true) (if_so _ _ _ _ (eq-eqb _ _ c.if-listed-eq0.true) refl))

pub returns-then-is_good : goal.returns-then-is_good
returns-then-is_good c =
    if_so _ _ _ _ (sym c.has_codes.ensures ∙ c.if-has_codes.true) (if_so _ _ _ _ (eq-eqb _ _ c.if-p-eq516.true) (if_not _ _ _ _ (ne_eqb _ _ c.if-listed-eq0.false) (if_so _ _ _ _ (sym c.is_good.ensures.0 ∙ c.if-is_good.true) refl)))

pub returns-then-p-eq516 : goal.returns-then-p-eq516
returns-then-p-eq516 c =
    if_so _ _ _ _ (sym c.has_codes.ensures ∙ c.if-has_codes.true) (if_so _ _ _ _ (eq-eqb _ _ c.if-p-eq516.true) (if_not _ _ _ _ (ne_eqb _ _ c.if-listed-eq0.false) (if_not _ _ _ _ (sym c.is_good.ensures.0 ∙ c.if-is_good.false) refl)))

pub returns-then-has_codes : goal.returns-then-has_codes
returns-then-has_codes c = if_so _ _ _ _ (sym c.has_codes.ensures ∙ c.if-has_codes.true) (if_not _ _ _ _ (ne_eqb _ _ c.if-p-eq516.false) refl)

pub returns : goal.returns
returns c = if_not _ _ _ _ (sym c.has_codes.ensures ∙ c.if-has_codes.false) refl

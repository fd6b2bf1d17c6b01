use mathlib.Core.Path.{refl, sym, ◌∙◌}
use borrow.Author.Tests.{eq-eqb, ne_eqb}
use Rattle.fault_reason.proofs.Laws.{if_so, if_not}
use borrow.Author.Rules.{rules}
use Rattle.fault_reason.proofs.around.second_reason.Goals as goal

pub returns-then-p-n : goal.returns-then-p-n
returns-then-p-n c = if_so _ _ _ _ (eq-eqb _ _ c.if-code-eq-GAME_END.true) (if_so _ _ _ _ (eq-eqb _ _ (c.if-p-n.true ∙ c.end_size-n.ensures.0)) refl)

pub returns-then-code-eq-GAME_END : goal.returns-then-code-eq-GAME_END
returns-then-code-eq-GAME_END c = if_so _ _ _ _ (eq-eqb _ _ c.if-code-eq-GAME_END.true) (if_not _ _ _ _ (ne_eqb _ _ (λ e. c.if-p-n.false (e ∙ sym c.end_size-n.ensures.0))) refl)

pub returns : goal.returns
returns c = if_not _ _ _ _ (ne_eqb _ _ c.if-code-eq-GAME_END.false) c.other_reason.ensures

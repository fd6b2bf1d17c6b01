use mathlib.Core.Path.{refl, sym, ◌∙◌}
use borrow.Author.Tests.{eq-eqb, ne_eqb}
use Rattle.grammar.specs.WellFormed.{ascending}
use Rattle.read_order.proofs.Steps.{closed_is}
use Rattle.fault_reason.proofs.Laws.{if_so, if_not, open_is}
use borrow.Author.Rules.{rules}
use Rattle.fault_reason.proofs.around.end_reason.Goals as goal

pub returns-then-is_closed : goal.returns-then-is_closed
returns-then-is_closed c =
    let a = c.args in
    if_so _ _ _ _ (eq-eqb _ _ c.if-code-eq-GAME_END.true)
    (if_so _ _ _ _ (eq-eqb _ _ (c.if-p-n.true ∙ c.end_size-n.ensures.0)) (if_so _ _ _ _ (closed_is a.v ascending a.file.now a.span a.m (record { id = 0; port = 0; follower = 0 }) ∙ sym c.is_closed.ensures ∙ c.if-is_closed.true) refl))

pub returns-then-p-n : goal.returns-then-p-n
returns-then-p-n c =
    let a = c.args in
    if_so _ _ _ _ (eq-eqb _ _ c.if-code-eq-GAME_END.true)
    (if_so _ _ _ _ (eq-eqb _ _ (c.if-p-n.true ∙ c.end_size-n.ensures.0)) (if_not _ _ _ _ (closed_is a.v ascending a.file.now a.span a.m (record { id = 0; port = 0; follower = 0 }) ∙ sym c.is_closed.ensures ∙ c.if-is_closed.false)
    (c.open_reason.ensures ∙ open_is a.v a.file.now a.span a.m)))

pub returns-then-code-eq-GAME_END : goal.returns-then-code-eq-GAME_END
returns-then-code-eq-GAME_END c = if_so _ _ _ _ (eq-eqb _ _ c.if-code-eq-GAME_END.true) (if_not _ _ _ _ (ne_eqb _ _ (λ e. c.if-p-n.false (e ∙ sym c.end_size-n.ensures.0))) refl)

pub returns : goal.returns
returns c = if_not _ _ _ _ (ne_eqb _ _ c.if-code-eq-GAME_END.false) c.other_reason.ensures

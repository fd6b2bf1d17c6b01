use mathlib.Core.Path.{refl, sym, ◌∙◌}
use borrow.Author.Tests.{eq-eqb, ne_eqb}
use Rattle.fault_reason.proofs.Laws.{if_so, if_not, known_frame, other_as}
use borrow.Author.Rules.{rules}
use Rattle.fault_reason.proofs.around.other_reason.Goals as goal

pub returns-then-code-eq-GAME_START : goal.returns-then-code-eq-GAME_START
returns-then-code-eq-GAME_START c = other_as _ (sym c.kind_of-k.ensures ∙ c.in-Other.is) _ (if_so _ _ _ _ (eq-eqb _ _ c.if-code-eq-GAME_START.true) refl)

pub returns-then-code-eq-MESSAGE_SPLITTER : goal.returns-then-code-eq-MESSAGE_SPLITTER
returns-then-code-eq-MESSAGE_SPLITTER c = other_as _ (sym c.kind_of-k.ensures ∙ c.in-Other.is) _ (if_not _ _ _ _ (ne_eqb _ _ c.if-code-eq-GAME_START.false) (if_so _ _ _ _ (eq-eqb _ _ c.if-code-eq-MESSAGE_SPLITTER.true) refl))

pub returns-then-code-eq-GAME_END : goal.returns-then-code-eq-GAME_END
returns-then-code-eq-GAME_END c =
    other_as _ (sym c.kind_of-k.ensures ∙ c.in-Other.is) _ (if_not _ _ _ _ (ne_eqb _ _ c.if-code-eq-GAME_START.false) (if_not _ _ _ _ (ne_eqb _ _ c.if-code-eq-MESSAGE_SPLITTER.false) (if_so _ _ _ _ (eq-eqb _ _ c.if-code-eq-GAME_END.true) refl)))

pub returns-in-Frame : goal.returns-in-Frame
returns-in-Frame c = known_frame _ _ (sym c.kind_of-k.ensures ∙ c.in-Frame.is)

pub returns-else-code-eq-GAME_END : goal.returns-else-code-eq-GAME_END
returns-else-code-eq-GAME_END c =
    other_as _ (sym c.kind_of-k.ensures ∙ c.in-Other.is) _ (if_not _ _ _ _ (ne_eqb _ _ c.if-code-eq-GAME_START.false) (if_not _ _ _ _ (ne_eqb _ _ c.if-code-eq-MESSAGE_SPLITTER.false) (if_not _ _ _ _ (ne_eqb _ _ c.if-code-eq-GAME_END.false) refl)))

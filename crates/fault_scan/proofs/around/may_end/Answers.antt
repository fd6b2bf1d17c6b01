use mathlib.Core.Path.{sym, ◌∙◌}
use Rattle.format.proofs.Versions.{no_way}
use Rattle.fault_scan.proofs.Laws.{and_so, and_not}
use borrow.Author.Rules.{rules}
use Rattle.fault_scan.proofs.around.may_end.Goals as goal

pub returns-then-is_end : goal.returns-then-is_end
returns-then-is_end c =
    (and_so _ _ _ (sym c.is_closed.ensures ∙ c.if-is_closed.true) (and_so _ _ _ (sym c.is_end.ensures.0 ∙ c.if-is_end.true) c.initiator_fits.ensures), λ q. c.is_end.ensures.1 c.if-is_end.true)

pub returns-else-is_end : goal.returns-else-is_end
returns-else-is_end c = (and_so _ _ _ (sym c.is_closed.ensures ∙ c.if-is_closed.true) (and_not _ _ (sym c.is_end.ensures.0 ∙ c.if-is_end.false)), λ q. no_way q)

pub returns-else-is_closed : goal.returns-else-is_closed
returns-else-is_closed c = (and_not _ _ (sym c.is_closed.ensures ∙ c.if-is_closed.false), λ q. no_way q)

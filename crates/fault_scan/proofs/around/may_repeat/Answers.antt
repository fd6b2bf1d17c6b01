use mathlib.Core.Path.{sym, ◌∙◌}
use Rattle.fault_scan.proofs.Laws.{and_so, and_not}
use borrow.Author.Rules.{rules}
use Rattle.fault_scan.proofs.around.may_repeat.Goals as goal

pub returns-then-is_end : goal.returns-then-is_end
returns-then-is_end c = and_so _ _ _ (sym c.is_end.ensures.0 ∙ c.if-is_end.true) c.is_same.ensures

pub returns : goal.returns
returns c = and_not _ _ (sym c.is_end.ensures.0 ∙ c.if-is_end.false)

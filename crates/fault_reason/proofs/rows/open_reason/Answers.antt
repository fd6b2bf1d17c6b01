use mathlib.Core.Path.{refl}
use borrow.Author.Tests.{eq-eqb, ne_eqb}
use Rattle.fault_reason.proofs.Laws.{if_so, if_not}
use Rattle.fault_reason.proofs.rows.open_reason.Goals as goal

pub returns-then-m-eq0 : goal.returns-then-m-eq0
returns-then-m-eq0 c = if_so _ _ _ _ (eq-eqb _ _ c.if-m-eq0.true) refl

pub returns : goal.returns
returns c = if_not _ _ _ _ (ne_eqb _ _ c.if-m-eq0.false) refl

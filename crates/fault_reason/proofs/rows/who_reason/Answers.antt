use mathlib.Core.Path.{refl}
use borrow.Author.Tests.{le-leb, lt-leb}
use Rattle.fault_reason.proofs.Laws.{if_so, if_not}
use Rattle.fault_reason.proofs.rows.who_reason.Goals as goal

pub returns-then-w-le3 : goal.returns-then-w-le3
returns-then-w-le3 c = if_so _ _ _ _ (le-leb _ _ c.if-w-le3.true) refl

pub returns : goal.returns
returns c = if_not _ _ _ _ (lt-leb _ _ c.if-w-le3.false) refl

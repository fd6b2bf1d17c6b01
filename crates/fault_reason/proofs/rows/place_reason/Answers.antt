use mathlib.Core.Path.{refl}
use borrow.Author.Tests.{le-leb, lt-leb}
use Rattle.fault_reason.proofs.Laws.{if_so, if_not}
use Rattle.fault_reason.proofs.rows.place_reason.Goals as goal

pub returns-then-m-rank : goal.returns-then-m-rank
returns-then-m-rank c = if_so _ _ _ _ (le-leb _ _ c.if-m-rank.true) refl

pub returns : goal.returns
returns c = if_not _ _ _ _ (lt-leb _ _ c.if-m-rank.false) refl

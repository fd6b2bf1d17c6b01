use borrow.Author.Rules.{rules}
use Rattle.repair_call.proofs.Laws.{behind_own, behind_no_tail, behind_events}
use Rattle.repair_call.proofs.stands_behind.Goals as goal

pub returns-then-is_tail : goal.returns-then-is_tail
returns-then-is_tail c =
    let b = c.is_tail in
    behind_own _ _ _ c.if-alone.true b.result b.ensures c.if-is_tail.true c.tail_kind-tail.result c.tail_kind-tail.ensures.0

pub returns-then-alone : goal.returns-then-alone
returns-then-alone c =
    let b = c.is_tail in
    behind_no_tail _ _ _ c.if-alone.true b.result b.ensures c.if-is_tail.false c.replaced.result c.replaced.ensures

pub returns : goal.returns
returns c = behind_events _ _ _ c.if-alone.false c.replaced-2.result c.replaced-2.ensures

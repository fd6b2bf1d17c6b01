use borrow.Author.Rules.{rules}
use Rattle.repair_scan.proofs.Laws.{two_ends, one_end, no_end}
use Rattle.repair_scan.proofs.ends.ends_from.Goals as goal

pub returns-then-ends_to : goal.returns-then-ends_to
returns-then-ends_to c = two_ends _ _ _ _ _ _ c.end_size-n.ensures.0 c.ends_to.result c.ends_to.ensures c.if-ends_to.true

pub returns-then-ends_to-2 : goal.returns-then-ends_to-2
returns-then-ends_to-2 c =
    one_end _ _ _ _ _ _ c.end_size-n.ensures.0 c.ends_to.result c.ends_to.ensures c.if-ends_to.false c.ends_to-2.result c.ends_to-2.ensures c.if-ends_to-2.true

pub returns : goal.returns
returns c =
    no_end _ _ _ _ _ _ c.end_size-n.ensures.0 c.ends_to.result c.ends_to.ensures c.if-ends_to.false c.ends_to-2.result c.ends_to-2.ensures c.if-ends_to-2.false

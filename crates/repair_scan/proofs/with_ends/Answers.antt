use borrow.Author.Rules.{rules}
use Rattle.repair_scan.proofs.Laws.{ends_there, ends_before}
use Rattle.repair_scan.proofs.with_ends.Goals as goal

pub ends_from-requires : goal.ends_from-requires
ends_from-requires c = (c.furthest-r.ensures.1, c.requires.1, c.requires.2)

pub returns-then-r : goal.returns-then-r
returns-then-r c =
    let r = c.furthest-r in
    ends_there _ _ _ _ r.result _ r.ensures.0 c.if-r.true c.ends_from.result c.ends_from.ensures

pub returns : goal.returns
returns c = let r = c.furthest-r in ends_before _ _ _ _ r.result _ r.ensures.0 c.if-r.false

use borrow.Author.Rules.{rules}
use Rattle.repair_scan.proofs.Laws.{start_unlisted, start_alone_lem, start_long}
use Rattle.repair_scan.proofs.start_only.Goals as goal

pub returns-then-is_short : goal.returns-then-is_short
returns-then-is_short c = let a = c.listed_right in start_alone_lem _ _ _ a.result a.ensures c.if-listed_right.true c.is_short.result c.is_short.ensures c.if-is_short.true

pub returns-else-is_short : goal.returns-else-is_short
returns-else-is_short c = let a = c.listed_right in start_long _ _ _ a.result a.ensures c.if-listed_right.true c.is_short.result c.is_short.ensures c.if-is_short.false

pub returns-else-listed_right : goal.returns-else-listed_right
returns-else-listed_right c = start_unlisted _ _ _ c.listed_right.result c.listed_right.ensures c.if-listed_right.false

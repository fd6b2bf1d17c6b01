use borrow.Author.Rules.{rules}
use Rattle.repair_scan.proofs.Laws.{kept_codes, kept_start}
use Rattle.repair_scan.proofs.kept_from.Goals as goal

pub returns-then-p-eq0 : goal.returns-then-p-eq0
returns-then-p-eq0 c = let p = c.from_codes-p in kept_start _ _ _ _ _ p.result p.ensures c.if-p-eq0.true c.start_only.result c.start_only.ensures

pub returns : goal.returns
returns c = let p = c.from_codes-p in kept_codes _ _ _ _ _ p.result p.ensures c.if-p-eq0.false

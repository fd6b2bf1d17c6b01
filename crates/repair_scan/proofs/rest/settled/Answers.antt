use borrow.Author.Rules.{rules}
use Rattle.repair_scan.proofs.Laws.{open_still, rests_here, rests_not}
use Rattle.repair_scan.proofs.rest.settled.Goals as goal

pub returns-then-tally_fits : goal.returns-then-tally_fits
returns-then-tally_fits c = let a = c.is_closed in rests_here _ _ _ _ _ a.result a.ensures c.if-is_closed.true c.tally_fits.result c.tally_fits.ensures c.if-tally_fits.true

pub returns-else-tally_fits : goal.returns-else-tally_fits
returns-else-tally_fits c = let a = c.is_closed in rests_not _ _ _ _ _ a.result a.ensures c.if-is_closed.true c.tally_fits.result c.tally_fits.ensures c.if-tally_fits.false

pub returns-else-is_closed : goal.returns-else-is_closed
returns-else-is_closed c = open_still _ _ _ _ _ c.is_closed.result c.is_closed.ensures c.if-is_closed.false

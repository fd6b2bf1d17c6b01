use borrow.Author.Rules.{rules}
use Rattle.repair_scan.proofs.Laws.{fits_not, fits_many, fits_few}
use Rattle.repair_scan.proofs.rest.tally_fits.Goals as goal

pub returns-then-is_few : goal.returns-then-is_few
returns-then-is_few c =
    let a = c.changing in
    let b = c.is_few in
    fits_few _ _ _ a.result a.ensures c.if-changing.true b.result b.ensures c.if-is_few.true c.is_short.result c.is_short.ensures

pub returns-else-is_few : goal.returns-else-is_few
returns-else-is_few c =
    let a = c.changing in
    let b = c.is_few in
    fits_many _ _ _ a.result a.ensures c.if-changing.true b.result b.ensures c.if-is_few.false

pub returns-else-changing : goal.returns-else-changing
returns-else-changing c = fits_not _ _ _ c.changing.result c.changing.ensures c.if-changing.false

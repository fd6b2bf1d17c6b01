use Rattle.transpose.proofs.Reach.{reach, fetched, fetched_none}
use Rattle.transpose.proofs.fetch.record_at.Goals as goal

pub returns-then-not-shown : goal.returns-then-not-shown
returns-then-not-shown c = fetched_none _ _ _ _ _ _ c.if-not-shown.true

pub row_cells-requires : goal.row_cells-requires
row_cells-requires c = reach (c.requires c.if-not-shown.false) _ c.rows-rows.ensures

pub returns : goal.returns
returns c = let z = c.if-not-shown.false in fetched (c.requires z) _ c.rows-rows.ensures _ z c.row_cells.ensures

use Rattle.frames.proofs.CellLaws.{whole_runs, fits_with, exceeds_as, exceeds_none}
use Rattle.frames.proofs.stores.store_exceeds.Goals as goal

pub returns-then-rows-eq0 : goal.returns-then-rows-eq0
returns-then-rows-eq0 c = exceeds_none c.args.f c.args.family _ _ c.rows-rows.ensures c.if-rows-eq0.true

pub blocks_exceed-requires : goal.blocks_exceed-requires
blocks_exceed-requires c =
    let p = c.runs_of-runs in
    (whole_runs _ _ _ p.ensures, fits_with c.args.f c.args.family _ c.requires _ _ p.result c.blocks-blocks.ensures.0 p.ensures c.rows-rows.ensures)

pub returns : goal.returns
returns c =
    let b = c in
    let p = b.runs_of-runs in
    exceeds_as b.args.f b.args.family _ _ _ _ p.result b.blocks-blocks.ensures.0 p.ensures b.rows-rows.ensures c.blocks_exceed.ensures

use Prim.Native.Nat.{◌*◌, ◌≤◌}
use native.Mathlib.Omega.{arith}
use Rattle.players.proofs.CountLaws.{rows_most, product_small}
use Rattle.frames.proofs.CellLaws.{misfits_as, misfits_none}
use Rattle.frames.proofs.stores.store_misfits.Goals as goal
use Rattle.frames.proofs.stores.store_misfits.Goals.{After-blocks-blocks}

-- the products are small
small : (c : After-blocks-blocks)
    → (c.columns-columns.result * c.rows-rows.result ≤ 134217728)
    × (c.blocks-blocks.result * (c.columns-columns.result * c.rows-rows.result) ≤ 1073741824)
small c =
    product_small c.blocks-blocks.ensures.1 c.columns-columns.ensures.1 (omega (arith, c.rows-rows.ensures, rows_most c.args.f c.args.family c.requires))

pub returns-then-rows-eq0 : goal.returns-then-rows-eq0
returns-then-rows-eq0 c = misfits_none c.args.f c.args.family _ _ c.rows-rows.ensures c.if-rows-eq0.true

pub overflow_mul-result : goal.overflow_mul-result
overflow_mul-result c = omega (arith, (small c).0)

pub overflow_mul-result-2 : goal.overflow_mul-result-2
overflow_mul-result-2 c = omega (arith, (small c).1)

pub returns : goal.returns
returns c =
    misfits_as c.args.f c.args.family _ _ _ _ c.blocks-blocks.ensures.0 c.columns-columns.ensures.0 c.rows-rows.ensures

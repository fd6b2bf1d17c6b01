use mathlib.Core.Path.{sym}
use native.Mathlib.Omega.{arith}
use Rattle.wire.proofs.Writers.{room_as, wrote_as}
use Rattle.map.proofs.Laws.{row_of, key_at_lem}
use Rattle.map.proofs.put.put_key.Goals as goal

pub put_text-requires : goal.put_text-requires
put_text-requires c =
    let r = row_of _ _ _ c.requires.0 in
    (omega (arith, r.key, c.cell.ensures.0, c.cell-2.ensures.0), omega (arith, r.key_short, c.cell-2.ensures.0), room_as (key_at_lem _ _ _ c.cell.ensures.0 c.cell-2.ensures.0) c.requires.1)

pub returns : goal.returns
returns c = wrote_as (sym (key_at_lem _ _ _ c.cell.ensures.0 c.cell-2.ensures.0)) c.put_text.ensures

pub cell-requires : goal.cell-requires
cell-requires c = omega (arith, (row_of _ _ _ c.requires.0).row)

pub cell-requires-2 : goal.cell-requires-2
cell-requires-2 c = omega (arith, (row_of _ _ _ c.requires.0).row)

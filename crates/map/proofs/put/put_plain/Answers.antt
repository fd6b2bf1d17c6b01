-- `map::put::put_plain` meets its contract: a text, or a number.
use mathlib.Core.Path.{sym, ◌∙◌}
use native.Mathlib.Omega.{arith}
use Rattle.wire.proofs.Writers.{room_as, room_first, room_second, wrote_as, wrote_then}
use Rattle.map.proofs.Laws.{row_of, text_value, number_value}
use mathlib.Core.Path.{refl}
use Rattle.map.proofs.put.put_plain.Goals as goal

pub put_u8-p-requires : goal.put_u8-p-requires
put_u8-p-requires c = room_first _ (room_as (text_value _ _ _ c.cell.ensures.0 c.if-cell-eq0.true refl refl) c.requires.1)

pub put_text-requires : goal.put_text-requires
put_text-requires c =
    let zero = c.cell.ensures.0 in
    let is-text = c.if-cell-eq0.true in
    let at = c.cell-then-cell-eq0.ensures.0 in
    let len = c.cell-then-cell-eq0-2.ensures.0 in
    let t = (row_of _ _ _ c.requires.0).text (sym zero ∙ is-text) in
    (omega (arith, t, at, len), omega (arith, t, len), room_second (room_as (text_value _ _ _ zero is-text at len) c.requires.1) c.put_u8-p.ensures)

pub returns-then-cell-eq0 : goal.returns-then-cell-eq0
returns-then-cell-eq0 c =
    wrote_as (sym (text_value _ _ _ c.cell.ensures.0 c.if-cell-eq0.true c.cell-then-cell-eq0.ensures.0 c.cell-then-cell-eq0-2.ensures.0))
    (wrote_then c.put_u8-p.ensures c.put_text.ensures)

pub put_u8-p-requires-2 : goal.put_u8-p-requires-2
put_u8-p-requires-2 c = room_first _ (room_as (number_value _ _ _ c.cell.ensures.0 c.if-cell-eq0.false refl) c.requires.1)

pub put_u32-requires : goal.put_u32-requires
put_u32-requires c =
    room_second (room_as (number_value _ _ _ c.cell.ensures.0 c.if-cell-eq0.false c.cell-2.ensures.0) c.requires.1) c.put_u8-p-2.ensures

pub returns : goal.returns
returns c =
    wrote_as (sym (number_value _ _ _ c.cell.ensures.0 c.if-cell-eq0.false c.cell-2.ensures.0))
    (wrote_then c.put_u8-p-2.ensures c.put_u32.ensures)

pub cell-requires : goal.cell-requires
cell-requires c = omega (arith, (row_of _ _ _ c.requires.0).row)

pub cell-requires-then-cell-eq0 : goal.cell-requires-then-cell-eq0
cell-requires-then-cell-eq0 c = omega (arith, (row_of _ _ _ c.requires.0).row)

pub cell-requires-then-cell-eq0-2 : goal.cell-requires-then-cell-eq0-2
cell-requires-then-cell-eq0-2 c = omega (arith, (row_of _ _ _ c.requires.0).row)

pub cell-requires-2 : goal.cell-requires-2
cell-requires-2 c = omega (arith, (row_of _ _ _ c.requires.0).row)

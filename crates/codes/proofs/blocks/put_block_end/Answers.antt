-- `codes::blocks::put_block_end` meets its contract: a number and two bytes, one after the other.
use mathlib.Core.Path.{refl, sym}
use Rattle.wire.proofs.Writers.{room_as, room_first, room_second, wrote_as, wrote_then}
use Rattle.codes.proofs.Laws.{block_end_parts}
use Rattle.codes.proofs.blocks.put_block_end.Goals as goal

pub put_u16-p-requires : goal.put_u16-p-requires
put_u16-p-requires c = room_first _ (room_as (block_end_parts _ _ _ _ _ c.used_bytes.ensures refl refl) c.requires.1)

pub put_u8-p-requires : goal.put_u8-p-requires
put_u8-p-requires c =
    let r = room_as (block_end_parts _ _ _ _ _ c.used_bytes.ensures c.code.ensures refl) c.requires.1 in
    room_first _ (room_second r c.put_u16-p.ensures)

pub put_u8-requires : goal.put_u8-requires
put_u8-requires c =
    let r = room_as (block_end_parts _ _ _ _ _ c.used_bytes.ensures c.code.ensures c.last_flag.ensures) c.requires.1 in
    room_second (room_second r c.put_u16-p.ensures) c.put_u8-p.ensures

pub returns : goal.returns
returns c =
    wrote_as (sym (block_end_parts _ _ _ _ _ c.used_bytes.ensures c.code.ensures c.last_flag.ensures))
    (wrote_then c.put_u16-p.ensures (wrote_then c.put_u8-p.ensures c.put_u8.ensures))

pub used_bytes-requires : goal.used_bytes-requires
used_bytes-requires c = c.requires.0

pub last_flag-requires : goal.last_flag-requires
last_flag-requires c = c.requires.0

-- `codes::blocks::put_block` meets its contract: a byte, 512 bytes of the codes, and the block's end.
use mathlib.Core.Path.{sym}
use Rattle.wire.proofs.Writers.{room_as, room_first, room_second, wrote_as, wrote_then}
use Rattle.codes.proofs.Laws.{block_parts}
use Rattle.codes.proofs.blocks.put_block.Goals as goal

pub put_u8-p-requires : goal.put_u8-p-requires
put_u8-p-requires c = room_first _ (room_as (block_parts _ _ _ _ c.code.ensures) c.requires.2)

pub put_bytes-p-requires : goal.put_bytes-p-requires
put_bytes-p-requires c =
    room_first _ (room_second (room_as (block_parts _ _ _ _ c.code.ensures) c.requires.2) c.put_u8-p.ensures)

pub put_block_end-requires : goal.put_block_end-requires
put_block_end-requires c =
    let r = room_as (block_parts _ _ _ _ c.code.ensures) c.requires.2 in
    (c.requires.0, room_second (room_second r c.put_u8-p.ensures) c.put_bytes-p.ensures)

pub returns : goal.returns
returns c =
    wrote_as (sym (block_parts _ _ _ _ c.code.ensures))
    (wrote_then c.put_u8-p.ensures (wrote_then c.put_bytes-p.ensures c.put_block_end.ensures))

-- `map::put::put_text` meets its contract: the mark, the length, the bytes.
use mathlib.Core.Path.{sym}
use Rattle.wire.proofs.Writers.{room_as, room_first, room_second, wrote_as, wrote_then}
use Rattle.map.proofs.Laws.{text_parts}
use Rattle.map.proofs.put.put_text.Goals as goal

pub put_u8-p-requires : goal.put_u8-p-requires
put_u8-p-requires c = let p = c.requires in room_first _ (room_as (text_parts _ _ _ p.0) p.2)

pub put_u8-p-requires-2 : goal.put_u8-p-requires-2
put_u8-p-requires-2 c = let p = c.requires in room_first _ (room_second (room_as (text_parts _ _ _ p.0) p.2) c.put_u8-p.ensures)

pub put_bytes-requires : goal.put_bytes-requires
put_bytes-requires c =
    let p = c.requires in room_second (room_second (room_as (text_parts _ _ _ p.0) p.2) c.put_u8-p.ensures) c.put_u8-p-2.ensures

pub returns : goal.returns
returns c =
    let p = c.requires in wrote_as (sym (text_parts _ _ _ p.0)) (wrote_then c.put_u8-p.ensures (wrote_then c.put_u8-p-2.ensures c.put_bytes.ensures))

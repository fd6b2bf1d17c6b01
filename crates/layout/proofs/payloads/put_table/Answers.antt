-- `layout::payloads::put_table` meets its contract: a code, a size and the entries, one after the other.
use mathlib.Core.Path.{sym}
use Rattle.wire.proofs.Writers.{room_as, room_first, room_second, wrote_as, wrote_then}
use Rattle.layout.proofs.Entries.{table_parts}
use Rattle.layout.proofs.payloads.put_table.Goals as goal

pub put_u8-p-requires : goal.put_u8-p-requires
put_u8-p-requires c = room_first _ (room_as (table_parts _ _ _ c.code.ensures c.payload_sizes-t.ensures) c.requires.1)

pub put_u8-p-requires-2 : goal.put_u8-p-requires-2
put_u8-p-requires-2 c =
    let r = room_as (table_parts _ _ _ c.code.ensures c.payload_sizes-t.ensures) c.requires.1 in
    room_first _ (room_second r c.put_u8-p.ensures)

pub put_entries-requires : goal.put_entries-requires
put_entries-requires c =
    let r = room_as (table_parts _ _ _ c.code.ensures c.payload_sizes-t.ensures) c.requires.1 in
    room_second (room_second r c.put_u8-p.ensures) c.put_u8-p-2.ensures

pub returns : goal.returns
returns c =
    wrote_as (sym (table_parts _ _ _ c.code.ensures c.payload_sizes-t.ensures))
    (wrote_then c.put_u8-p.ensures (wrote_then c.put_u8-p-2.ensures c.put_entries.ensures))

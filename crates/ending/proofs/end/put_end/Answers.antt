-- `ending::end::put_end` meets its contract: its parts, one after the other.
use mathlib.Core.Path.{sym}
use Rattle.wire.proofs.Writers.{room_as, room_first, room_second, wrote_as, wrote_then}
use Rattle.ending.proofs.Laws.{end_parts_lem}
use Rattle.ending.proofs.end.put_end.Goals as goal

pub put_u8-p-requires : goal.put_u8-p-requires
put_u8-p-requires c = room_first _ (room_as (end_parts_lem _ _ _ c.code.ensures) c.requires)

pub put_u8-p-requires-2 : goal.put_u8-p-requires-2
put_u8-p-requires-2 c = room_first _ (room_second (room_as (end_parts_lem _ _ _ c.code.ensures) c.requires) c.put_u8-p.ensures)

pub put_initiator-p-requires : goal.put_initiator-p-requires
put_initiator-p-requires c =
    room_first _ (room_second (room_second (room_as (end_parts_lem _ _ _ c.code.ensures) c.requires) c.put_u8-p.ensures) c.put_u8-p-2.ensures)

pub put_placements-requires : goal.put_placements-requires
put_placements-requires c =
    room_second (room_second (room_second (room_as (end_parts_lem _ _ _ c.code.ensures) c.requires) c.put_u8-p.ensures) c.put_u8-p-2.ensures) c.put_initiator-p.ensures

pub returns : goal.returns
returns c =
    wrote_as (sym (end_parts_lem _ _ _ c.code.ensures))
    (wrote_then c.put_u8-p.ensures (wrote_then c.put_u8-p-2.ensures (wrote_then c.put_initiator-p.ensures c.put_placements.ensures)))

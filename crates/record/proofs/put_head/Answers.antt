-- `record::put_head` meets its contract: a byte, a number and a player, one after the other.
use mathlib.Core.List.{[], ◌∷◌}
use Rattle.wire.proofs.Writers.{room_first, room_second, wrote_then}
use Rattle.record.specs.Inner.{head_bytes}
use Rattle.record.proofs.put_head.Goals as goal

pub put_u8-p-requires : goal.put_u8-p-requires
unfolding head_bytes
put_u8-p-requires c = room_first {xs = c.args.h.code ∷ []} _ c.requires

pub put_u32-p-requires : goal.put_u32-p-requires
unfolding head_bytes
put_u32-p-requires c =
    room_first _ (room_second {xs = c.args.h.code ∷ []} c.requires c.put_u8-p.ensures)

pub put_player-requires : goal.put_player-requires
unfolding head_bytes
put_player-requires c =
    room_second (room_second {xs = c.args.h.code ∷ []} c.requires c.put_u8-p.ensures) c.put_u32-p.ensures

pub returns : goal.returns
unfolding head_bytes
returns c = wrote_then c.put_u8-p.ensures (wrote_then c.put_u32-p.ensures c.put_player.ensures)

use mathlib.Core.List.{[], ◌∷◌}
use Rattle.wire.proofs.Writers.{room_first, room_second, room_kept, wrote_then, wrote_kept, wrote_none}
use Rattle.record.proofs.put_player.Goals as goal

pub put_u8-p-requires : goal.put_u8-p-requires
put_u8-p-requires c =
    let h = c.args.h in
    room_first {xs = h.port ∷ []} (h.follower ∷ []) (room_kept _ _ c.if-h.true c.requires)

pub put_u8-requires : goal.put_u8-requires
put_u8-requires c =
    let h = c.args.h in
    room_second {xs = h.port ∷ []} {ys = h.follower ∷ []} (room_kept _ _ c.if-h.true c.requires) c.put_u8-p.ensures

pub returns-then-h : goal.returns-then-h
returns-then-h c = wrote_kept _ _ c.if-h.true (wrote_then c.put_u8-p.ensures c.put_u8.ensures)

pub returns : goal.returns
returns c = wrote_none _ _ _ _ c.if-h.false

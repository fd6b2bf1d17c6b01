-- `ending::tail::put_metadata` meets its contract: key, body and brace, one after the other.
use Rattle.wire.proofs.Writers.{room_first, room_second, room_kept, wrote_then, wrote_kept, wrote_none}
use Rattle.ending.specs.Tail.{metadata_key, metadata_of}
use Rattle.ending.proofs.tail.put_metadata.Goals as goal

pub put_bytes-p-requires : goal.put_bytes-p-requires
unfolding metadata_of
put_bytes-p-requires c = room_first {xs = metadata_key} _ (room_kept _ _ c.if-given.true c.requires)

pub put_bytes-p-requires-then-given : goal.put_bytes-p-requires-then-given
unfolding metadata_of
put_bytes-p-requires-then-given c = room_first _ (room_second {xs = metadata_key} (room_kept _ _ c.if-given.true c.requires) c.put_bytes-p.ensures)

pub put_u8-requires : goal.put_u8-requires
unfolding metadata_of
put_u8-requires c =
    room_second (room_second {xs = metadata_key} (room_kept _ _ c.if-given.true c.requires) c.put_bytes-p.ensures) c.put_bytes-p-then-given.ensures

pub returns-then-given : goal.returns-then-given
unfolding metadata_of
returns-then-given c =
    wrote_kept _ _ c.if-given.true
    (wrote_then c.put_bytes-p.ensures (wrote_then c.put_bytes-p-then-given.ensures c.put_u8.ensures))

pub returns : goal.returns
returns c = wrote_none _ _ _ _ c.if-given.false

use Rattle.wire.proofs.Writers.{room_first, room_second, wrote_then}
use Rattle.ending.specs.Tail.{tail_of}
use Rattle.ending.proofs.tail.put_tail.Goals as goal

pub put_metadata-p-requires : goal.put_metadata-p-requires
unfolding tail_of
put_metadata-p-requires c = room_first _ c.requires

pub put_u8-requires : goal.put_u8-requires
unfolding tail_of
put_u8-requires c = room_second c.requires c.put_metadata-p.ensures

pub returns : goal.returns
unfolding tail_of
returns c = wrote_then c.put_metadata-p.ensures c.put_u8.ensures

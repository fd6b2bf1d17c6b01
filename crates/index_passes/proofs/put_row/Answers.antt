use Rattle.wire.proofs.Writers.{wrote_then, room_first, room_second, wrote_length}
use Rattle.index_form.specs.Form.{row_bytes}
use Rattle.index_passes.proofs.put_row.Goals as goal

pub put_u32-next-requires : goal.put_u32-next-requires
unfolding row_bytes
put_u32-next-requires c = room_first _ c.requires

pub put_u32-requires : goal.put_u32-requires
unfolding row_bytes
put_u32-requires c = room_second c.requires c.put_u32-next.ensures

pub shape_of-out : goal.shape_of-out
shape_of-out c = wrote_length (wrote_then c.put_u32-next.ensures c.put_u32.ensures)

pub returns : goal.returns
unfolding row_bytes
returns c = wrote_then c.put_u32-next.ensures c.put_u32.ensures

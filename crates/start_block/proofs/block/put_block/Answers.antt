use native.Mathlib.Omega.{arith}
use Rattle.start.proofs.Blocks.{block_room, block_written}
use Rattle.start_block.proofs.block.put_block.Goals as goal

pub put_bytes-next-requires : goal.put_bytes-next-requires
put_bytes-next-requires c = block_room _ _ _ c.requires.2

pub slice_bounds-put_fields-end : goal.slice_bounds-put_fields-end
slice_bounds-put_fields-end c = omega (arith, block_room _ _ _ c.requires.2)

pub returns : goal.returns
returns c = block_written _ _ _ c.requires.2 c.put_bytes-next.ensures c.put_fields.ensures

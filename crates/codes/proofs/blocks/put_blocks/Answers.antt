use native.Mathlib.Omega.{arith}
use Rattle.wire.proofs.Writers.{range_room, range_step, range_done}
use Rattle.codes.proofs.Laws.{blocks_start}
use Rattle.codes.proofs.blocks.put_blocks.Goals as goal

pub loop-b-init : goal.loop-b-init
loop-b-init c = (omega arith, blocks_start _ _ _ c.block_count-n.ensures.0)

pub put_block-p-requires : goal.put_block-p-requires
put_block-p-requires c =
    let l = c.loop-b in
    (omega (arith, c.block_count-n.ensures.0), c.requires.0, range_room _ l.b _ l.invariant.1 (omega arith) c.requires.1)

pub loop-b-preserved : goal.loop-b-preserved
loop-b-preserved c = let l = c.loop-b in (omega arith, range_step _ l.b _ l.invariant.1 (omega arith) c.put_block-p.ensures)

pub shape_of-out : goal.shape_of-out
shape_of-out c = c.loop-b.invariant.1.same

pub returns : goal.returns
returns c = range_done _ _ _ c.loop-b.invariant.1 (omega arith)

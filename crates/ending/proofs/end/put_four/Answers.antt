use native.Mathlib.Omega.{arith}
use Rattle.wire.proofs.Writers.{left_start, range_room, range_step, range_done, room_byte, wrote_as_byte}
use Rattle.ending.specs.End.{placements_of}
use Rattle.ending.proofs.end.put_four.Goals as goal

pub loop-i-init : goal.loop-i-init
unfolding placements_of
loop-i-init c = (omega arith, left_start)

pub put_u8-p-requires : goal.put_u8-p-requires
put_u8-p-requires c =
    let l = c.loop-i in room_byte c.placement.ensures (range_room _ l.i _ l.invariant.1 (omega arith) c.requires)

pub loop-i-preserved : goal.loop-i-preserved
loop-i-preserved c =
    let l = c.loop-i in
    (omega arith, range_step _ l.i _ l.invariant.1 (omega arith) (wrote_as_byte c.placement.ensures c.put_u8-p.ensures))

pub shape_of-out : goal.shape_of-out
shape_of-out c = c.loop-i.invariant.1.same

pub returns : goal.returns
returns c = range_done _ _ _ c.loop-i.invariant.1 (omega arith)

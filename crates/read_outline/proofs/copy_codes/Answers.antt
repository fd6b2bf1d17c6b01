use native.Mathlib.Omega.{arith}
use Rattle.wire.proofs.Writers.{range_start, range_room, range_step, range_done}
use Rattle.read_outline.proofs.Laws.{copy_room, room_part, wrote_part}
use Rattle.read_outline.proofs.copy_codes.Goals as goal

pub loop-b-init : goal.loop-b-init
loop-b-init c = (omega arith, range_start _ _)

pub put_bytes-p-requires : goal.put_bytes-p-requires
put_bytes-p-requires c =
    let l = c.loop-b in let a = c.args in let h = c.requires in room_part a.file.now _ (range_room _ l.b _ l.invariant.1 c.loop-b-test.true (copy_room a.file.now a.codes.now a.first a.blocks h.0 h.1))

pub loop-b-preserved : goal.loop-b-preserved
loop-b-preserved c =
    let l = c.loop-b in let a = c.args in (omega arith, range_step _ l.b _ l.invariant.1 c.loop-b-test.true (wrote_part a.file.now _ c.put_bytes-p.ensures))

pub shape_of-codes : goal.shape_of-codes
shape_of-codes c = c.loop-b.invariant.1.same

pub returns : goal.returns
returns c = (range_done _ _ _ c.loop-b.invariant.1 c.loop-b-test.false).after_is

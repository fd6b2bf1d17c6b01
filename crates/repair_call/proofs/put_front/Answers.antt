use borrow.Author.Rules.{rules}
use mathlib.Core.Path.{sym}
use native.Mathlib.Omega.{arith}
use lib.Seq.{length-take-le}
use Rattle.wire.specs.Wire.{part}
use Rattle.wire.proofs.Writers.{room_first, room_second, wrote_then}
use Rattle.repair_call.specs.Inner.{front_of}
use Rattle.repair_call.proofs.Laws.{front_room}
use Rattle.repair_call.proofs.put_front.Goals as goal

pub slice_bounds-put_bytes-end : goal.slice_bounds-put_bytes-end
slice_bounds-put_bytes-end c = sym (length-take-le 11 c.args.file.now (omega (arith, c.requires.above, c.requires.within)))

pub put_bytes-at-requires : goal.put_bytes-at-requires
unfolding front_of part
put_bytes-at-requires c = room_first _ (front_room c.args.file.now c.args.out.now c.args.p c.requires)

pub put_u32-at-requires : goal.put_u32-at-requires
unfolding front_of part
put_u32-at-requires c = room_first _ (room_second (front_room c.args.file.now c.args.out.now c.args.p c.requires) c.put_bytes-at.ensures)

pub put_bytes-requires : goal.put_bytes-requires
unfolding front_of part
put_bytes-requires c =
    room_second (room_second (front_room c.args.file.now c.args.out.now c.args.p c.requires) c.put_bytes-at.ensures) c.put_u32-at.ensures

pub returns : goal.returns
unfolding front_of part
returns c = wrote_then c.put_bytes-at.ensures (wrote_then c.put_u32-at.ensures c.put_bytes.ensures)

use Rattle.wire.proofs.Writers.{room_first, room_second, wrote_then}
use Rattle.events.specs.Inner.{middle_bytes}
use Rattle.events.proofs.middle.put_middle.Goals as goal

pub put_rows-p-requires : goal.put_rows-p-requires
unfolding middle_bytes
put_rows-p-requires c =
    (c.requires.0.0, c.requires.1, room_first _ c.requires.2)

pub put_rows-p-requires-2 : goal.put_rows-p-requires-2
unfolding middle_bytes
put_rows-p-requires-2 c =
    let r2 = room_second c.requires.2 c.put_rows-p.ensures in
    (c.requires.0.1, c.requires.1, room_first _ r2)

pub put_rows-p-requires-3 : goal.put_rows-p-requires-3
unfolding middle_bytes
put_rows-p-requires-3 c =
    let r2 = room_second c.requires.2 c.put_rows-p.ensures in
    let r3 = room_second r2 c.put_rows-p-2.ensures in
    (c.requires.0.2, c.requires.1, room_first _ r3)

pub put_rows-requires : goal.put_rows-requires
unfolding middle_bytes
put_rows-requires c =
    let r2 = room_second c.requires.2 c.put_rows-p.ensures in
    let r3 = room_second r2 c.put_rows-p-2.ensures in
    let r4 = room_second r3 c.put_rows-p-3.ensures in
    (c.requires.0.3, c.requires.1, r4)

pub returns : goal.returns
unfolding middle_bytes
returns c =
    wrote_then c.put_rows-p.ensures (wrote_then c.put_rows-p-2.ensures (wrote_then c.put_rows-p-3.ensures c.put_rows.ensures))

use Rattle.wire.proofs.Writers.{room_kept, wrote_kept, wrote_none}
use Rattle.events.specs.Inner.{one_bytes}
use Rattle.events.proofs.Laws.{only_in}
use Rattle.events.proofs.rows.put_one.Goals as goal

pub put_row-requires : goal.put_row-requires
unfolding one_bytes
put_row-requires c =
    let q = c.requires.0 in
    (q.few, q.total, only_in c.args.m c.args.cells.now c.args.i q c.requires.1, room_kept _ _ c.if-m.true c.requires.2)

pub returns-then-m : goal.returns-then-m
unfolding one_bytes
returns-then-m c = wrote_kept _ _ c.if-m.true c.put_row.ensures

pub returns : goal.returns
unfolding one_bytes
returns c = wrote_none _ _ _ _ c.if-m.false

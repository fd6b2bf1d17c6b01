use native.Mathlib.Omega.{arith}
use Rattle.wire.proofs.Writers.{range_room, range_step, range_done}
use Rattle.events.proofs.Laws.{only_in}
use Rattle.events.proofs.rows.put_range.Goals as goal

pub put_row-p-requires : goal.put_row-p-requires
put_row-p-requires c =
    let l = c.loop-j in
    let q = c.requires.0 in
    (q.few, q.total, only_in c.args.m c.args.cells.now l.j q (omega arith), range_room _ l.j _ l.invariant.1 (omega arith) c.requires.3)

pub loop-j-preserved : goal.loop-j-preserved
loop-j-preserved c =
    let l = c.loop-j in
    (omega arith, range_step _ l.j _ l.invariant.1 c.loop-j-test.true c.put_row-p.ensures)

pub returns : goal.returns
returns c = range_done _ _ _ c.loop-j.invariant.1 c.loop-j-test.false

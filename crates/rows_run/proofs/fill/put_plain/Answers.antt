use native.Mathlib.Omega.{arith}
use Rattle.wire.proofs.Writers.{range_room, range_step, range_done}
use Rattle.rows_run.specs.Inner.{plain_row}
use Rattle.rows_run.proofs.fill.put_plain.Goals as goal

pub put_cells-p-requires : goal.put_cells-p-requires
unfolding plain_row
put_cells-p-requires c =
    let l = c.loop-i in
    (range_room _ l.i _ l.invariant.1 c.loop-i-test.true c.requires.0, c.requires.1 l.i c.loop-i-test.true)

pub loop-i-preserved : goal.loop-i-preserved
unfolding plain_row
loop-i-preserved c =
    let l = c.loop-i in
    let t = c.loop-i-test.true in
    (omega (arith, t), range_step _ l.i _ l.invariant.1 t c.put_cells-p.ensures)

pub returns : goal.returns
returns c = range_done _ _ _ c.loop-i.invariant.1 c.loop-i-test.false

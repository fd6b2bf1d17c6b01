use native.Mathlib.Omega.{arith}
use Rattle.wire.proofs.Writers.{range_room, range_step, range_done, room_first, room_second, wrote_length, wrote_then, wrote_byte, wrote_as_byte}
use Rattle.rows_run.specs.Inner.{player_row}
use Rattle.rows_run.proofs.fill.put_players.Goals as goal

pub put_cells-p-requires : goal.put_cells-p-requires
unfolding player_row
put_cells-p-requires c =
    let l = c.loop-i in
    let t = c.loop-i-test.true in
    (room_first _ (range_room _ l.i _ l.invariant.1 t c.requires.0), c.requires.1 l.i t)

pub offset_bounds-out-p : goal.offset_bounds-out-p
unfolding player_row
offset_bounds-out-p c =
    omega (arith, (room_second (range_room _ c.loop-i.i _ c.loop-i.invariant.1 c.loop-i-test.true c.requires.0) c.put_cells-p.ensures).fits, wrote_length c.put_cells-p.ensures, c.loop-i.invariant.1.same, c.well_formed)

pub bounds-out-p : goal.bounds-out-p
unfolding player_row
bounds-out-p c =
    omega (arith, (room_second (range_room _ c.loop-i.i _ c.loop-i.invariant.1 c.loop-i-test.true c.requires.0) c.put_cells-p.ensures).fits)

pub overflow_add-p : goal.overflow_add-p
unfolding player_row
overflow_add-p c =
    omega (arith, (room_second (range_room _ c.loop-i.i _ c.loop-i.invariant.1 c.loop-i-test.true c.requires.0) c.put_cells-p.ensures).fits, wrote_length c.put_cells-p.ensures, c.loop-i.invariant.1.same, c.well_formed)

pub loop-i-preserved : goal.loop-i-preserved
unfolding player_row
loop-i-preserved c =
    let l = c.loop-i in
    let t = c.loop-i-test.true in (
      omega (arith, t),
      range_step _ l.i _ l.invariant.1 t
          (wrote_then c.put_cells-p.ensures (wrote_as_byte c.mark_cell-mark.ensures (wrote_byte _ c.put_cells-p.result _))),
    )

pub returns : goal.returns
returns c = range_done _ _ _ c.loop-i.invariant.1 c.loop-i-test.false

use Prim.Native.Nat.{◌+◌, ◌≤◌, ◌<◌}
use native.Mathlib.Omega.{arith}
use lib.ListN.{length, get_or}
use Rattle.gather.proofs.Laws.{column_long, down_start, down_step, down_done}
use Rattle.gather.proofs.get_whole.Goals as goal
use Rattle.gather.proofs.get_whole.Goals.{After-get_be, In-loop-t}

pub loop-t-init : goal.loop-t-init
loop-t-init c = (omega arith, down_start _ _ _ _ _ _ _)

-- a turn's place, and where its cell ends
reach : (c : In-loop-t) → get_or c.args.places.now (c.args.i + c.loop-t.t) 0 + (c.args.off + c.args.width) ≤ length c.args.file.now
reach c = c.requires.3 c.loop-t.t c.loop-t-test.true

pub get_be-requires : goal.get_be-requires
get_be-requires c = (c.requires.0, omega (arith, reach (goal.at.get_be-requires c).In-loop-t))

inside : (c : After-get_be) → let l = c.loop-t in c.args.first + l.t < length l.cells
inside c = omega (arith, c.requires.1, c.loop-t-test.true, column_long _ _ _ _ _ _ _ _ _ c.loop-t.invariant.1)

pub loop-t-preserved : goal.loop-t-preserved
loop-t-preserved c = let l = c.loop-t in (omega (arith, c.loop-t-test.true), down_step _ _ _ _ _ l.t _ _ _ _ l.invariant.1 c.get_be.ensures)

pub shape_of-cells : goal.shape_of-cells
shape_of-cells c = column_long _ _ _ _ _ _ _ _ _ c.loop-t.invariant.1

pub returns : goal.returns
returns c = down_done _ _ _ _ _ c.loop-t.t _ _ _ c.loop-t.invariant.1 c.loop-t.invariant.0 c.loop-t-test.false

pub overflow_add-p : goal.overflow_add-p
overflow_add-p c = omega (arith, c.requires.2, c.loop-t-test.true, c.well_formed)

pub offset_bounds-places-i : goal.offset_bounds-places-i
offset_bounds-places-i c = omega (arith, c.requires.2, c.loop-t-test.true, c.well_formed)

pub bounds-places-i : goal.bounds-places-i
bounds-places-i c = omega (arith, c.requires.2, c.loop-t-test.true)

pub overflow_add-p-in-loop-t : goal.overflow_add-p-in-loop-t
overflow_add-p-in-loop-t c = omega (arith, reach (goal.at.overflow_add-p-in-loop-t c).In-loop-t, c.well_formed)

pub overflow_add-cells : goal.overflow_add-cells
overflow_add-cells c = omega (arith, inside c, c.well_formed)

pub offset_bounds-cells-first : goal.offset_bounds-cells-first
offset_bounds-cells-first c = omega (arith, inside c, c.well_formed)

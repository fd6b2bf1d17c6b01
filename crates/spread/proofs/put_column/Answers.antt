use Prim.Native.Nat.{◌+◌, ◌≤◌}
use native.Mathlib.Omega.{arith}
use mathlib.Core.Path.{refl}
use lib.ListN.{length, get_or}
use Rattle.wire.proofs.Laws.{length_be}
use Rattle.spread.specs.Inner.{place_at}
use Rattle.spread.proofs.Laws.{strewn_start, strewn_step, strewn_length, strewn_done}
use Rattle.spread.proofs.put_column.Goals as goal
use Rattle.spread.proofs.put_column.Goals.{In-loop-t}

pub loop-t-init : goal.loop-t-init
loop-t-init c = (omega arith, strewn_start)

-- where a turn's cell goes
reach : (c : In-loop-t) → get_or c.args.places.now (c.args.i + c.loop-t.t) 0 + (c.args.off + 4) ≤ length c.args.out.now
reach c = c.requires.2 c.loop-t.t c.loop-t-test.true

pub put_u32-requires : goal.put_u32-requires
put_u32-requires c = record { fits = rw length_be (omega (arith, reach (goal.at.put_u32-requires c).In-loop-t, strewn_length c.loop-t.t c.loop-t.invariant.1)) }

pub loop-t-preserved : goal.loop-t-preserved
unfolding place_at
loop-t-preserved c =
    (omega (arith, c.loop-t-test.true), strewn_step c.loop-t.t c.loop-t.invariant.1 c.put_u32.ensures refl)

pub shape_of-out : goal.shape_of-out
shape_of-out c = strewn_length c.loop-t.t c.loop-t.invariant.1

pub returns : goal.returns
returns c = strewn_done c.loop-t.t c.loop-t.invariant.1 c.loop-t.invariant.0 c.loop-t-test.false

pub overflow_add-p : goal.overflow_add-p
overflow_add-p c = omega (arith, c.requires.1, c.loop-t-test.true, c.well_formed)

pub offset_bounds-places-i : goal.offset_bounds-places-i
offset_bounds-places-i c = omega (arith, c.requires.1, c.loop-t-test.true, c.well_formed)

pub bounds-places-i : goal.bounds-places-i
bounds-places-i c = omega (arith, c.requires.1, c.loop-t-test.true)

pub overflow_add-p-in-loop-t : goal.overflow_add-p-in-loop-t
overflow_add-p-in-loop-t c = omega (arith, reach (goal.at.overflow_add-p-in-loop-t c).In-loop-t, c.well_formed)

pub overflow_add-first : goal.overflow_add-first
overflow_add-first c = omega (arith, c.requires.0, c.loop-t-test.true, c.well_formed)

pub offset_bounds-cells-first : goal.offset_bounds-cells-first
offset_bounds-cells-first c = omega (arith, c.requires.0, c.loop-t-test.true, c.well_formed)

pub bounds-cells-first : goal.bounds-cells-first
bounds-cells-first c = omega (arith, c.requires.0, c.loop-t-test.true)

use mathlib.Core.Path.{refl}
use Prim.Native.Nat.{◌+◌, ◌-◌, ◌≤◌}
use native.Mathlib.Omega.{arith}
use lib.ListN.{get_or}
use Rattle.places.proofs.Laws.{long_small, none_long}
use Rattle.places.proofs.table.rows_len.Goals as goal
use Rattle.places.proofs.table.rows_len.Goals.{After-shared_slice_known-then-size-gt0-1}

pub overflow_add-n : goal.overflow_add-n
overflow_add-n c = omega (arith, c.requires.2, (c.requires.0 c.if-size-gt0.true).entries, c.well_formed)

pub offset_bounds-offsets-i : goal.offset_bounds-offsets-i
offset_bounds-offsets-i c = omega (arith, c.requires.2, (c.requires.0 c.if-size-gt0.true).entries, c.well_formed)

pub bounds-offsets-i : goal.bounds-offsets-i
bounds-offsets-i c = omega (arith, c.requires.2, (c.requires.0 c.if-size-gt0.true).entries)

pub offset_bounds-offsets-i-then-size-gt0 : goal.offset_bounds-offsets-i-then-size-gt0
offset_bounds-offsets-i-then-size-gt0 c = omega (arith, c.requires.2, (c.requires.0 c.if-size-gt0.true).entries, c.well_formed)

pub bounds-offsets-i-then-size-gt0 : goal.bounds-offsets-i-then-size-gt0
bounds-offsets-i-then-size-gt0 c = omega (arith, c.requires.2, (c.requires.0 c.if-size-gt0.true).entries)

pub overflow_sub-n : goal.overflow_sub-n
overflow_sub-n c = omega (arith, (c.requires.0 c.if-size-gt0.true).rising c.args.i c.requires.2)

-- the rows are fewer than an offset may be
few : (c : After-shared_slice_known-then-size-gt0-1) → let a = c.args in get_or a.offsets.now (a.i + 1) 0 - get_or a.offsets.now a.i 0 ≤ 4294967295
few c = let a = c.args in omega (arith, c.shared_slice_known-1.given (a.i + 1))

pub overflow_mul-result : goal.overflow_mul-result
overflow_mul-result c = omega (arith, long_small _ c.args.size (few c) c.requires.1)

pub returns-then-size-gt0 : goal.returns-then-size-gt0
returns-then-size-gt0 c = (refl, long_small _ c.args.size (few c) c.requires.1)

pub returns : goal.returns
returns c = let a = c.args in (none_long a.size a.offsets.now a.i c.if-size-gt0.false, omega arith)

pub overflow_cast-n : goal.overflow_cast-n
overflow_cast-n c = omega (arith, few c)

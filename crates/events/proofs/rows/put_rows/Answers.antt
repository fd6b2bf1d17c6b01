use Prim.Native.Nat.{◌+◌}
use native.Mathlib.Omega.{arith}
use Rattle.wire.proofs.Writers.{room_kept, wrote_kept, wrote_none}
use Rattle.players.specs.Inner.{Ranges}
use Rattle.events.specs.Inner.{rows_bytes}
use Rattle.events.proofs.rows.put_rows.Goals as goal
use Rattle.events.proofs.rows.put_rows.Goals.{Then-m}

-- the offsets, where the version has the family
ranges : (c : Then-m) → let a = c.args in Ranges a.frames a.m.rows a.offsets.now
ranges c = c.requires.0.ranges c.if-m.true

pub overflow_cast-a : goal.overflow_cast-a
overflow_cast-a c = omega (arith, c.shared_slice_known-then-m-1.given c.args.i)

pub overflow_cast-b : goal.overflow_cast-b
overflow_cast-b c = omega (arith, c.shared_slice_known-then-m-2-1.given (c.args.i + 1))

pub put_range-requires : goal.put_range-requires
unfolding rows_bytes
put_range-requires c =
    let r = ranges (goal.at.put_range-requires c).Then-m in
    (c.requires.0.laid, r.rising c.args.i c.requires.1, r.inside (c.args.i + 1) (omega (arith, c.requires.1)), room_kept _ _ c.if-m.true c.requires.2)

pub returns-then-m : goal.returns-then-m
unfolding rows_bytes
returns-then-m c = wrote_kept _ _ c.if-m.true c.put_range.ensures

pub returns : goal.returns
unfolding rows_bytes
returns c = wrote_none _ _ _ _ c.if-m.false

pub offset_bounds-offsets-i : goal.offset_bounds-offsets-i
offset_bounds-offsets-i c = omega (arith, (ranges c).entries)

pub bounds-offsets-i : goal.bounds-offsets-i
bounds-offsets-i c = omega (arith, (ranges (goal.at.bounds-offsets-i c).Then-m).entries)

pub offset_bounds-offsets-i-then-m : goal.offset_bounds-offsets-i-then-m
offset_bounds-offsets-i-then-m c = omega (arith, (ranges (goal.at.offset_bounds-offsets-i-then-m c).Then-m).entries)

pub bounds-offsets-i-then-m : goal.bounds-offsets-i-then-m
bounds-offsets-i-then-m c = omega (arith, (ranges (goal.at.bounds-offsets-i-then-m c).Then-m).entries)

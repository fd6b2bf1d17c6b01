use native.Mathlib.Omega.{arith}
use Rattle.players.specs.Inner.{Ranges}
use Rattle.append.proofs.Lengths.{records_none, rows_rise, rows_few}
use Rattle.append.proofs.length.rows_len.Goals as goal
use Rattle.append.proofs.length.rows_len.Goals.{Then-m}

-- the version has the family, so each frame has a range of its rows
ranges : (c : Then-m) → let a = c.args in Ranges a.frames a.m.rows a.offsets.now
ranges c = c.requires.2 c.if-m.true

pub bounds-offsets-a : goal.bounds-offsets-a
bounds-offsets-a c = omega (arith, (ranges (goal.at.bounds-offsets-a c).Then-m).entries, c.requires.3, c.requires.4)

pub overflow_cast-first : goal.overflow_cast-first
overflow_cast-first c = omega (arith, (c.shared_slice_known-then-m-1.given c.args.a).fits)

pub bounds-offsets-b : goal.bounds-offsets-b
bounds-offsets-b c = omega (arith, (ranges (goal.at.bounds-offsets-b c).Then-m).entries, c.requires.4)

pub overflow_cast-next : goal.overflow_cast-next
overflow_cast-next c = omega (arith, (c.shared_slice_known-then-m-2-1.given c.args.b).fits)

pub overflow_sub-next : goal.overflow_sub-next
overflow_sub-next c = rows_rise _ _ _ c.args.a c.args.b (ranges (goal.at.overflow_sub-next c).Then-m) c.requires.3 c.requires.4

pub records_len-requires : goal.records_len-requires
records_len-requires c =
    (c.requires.0, rows_few _ _ _ c.args.a c.args.b (ranges (goal.at.records_len-requires c).Then-m) c.requires.3 c.requires.4 c.requires.1)

pub returns : goal.returns
returns c = (records_none c.args.m _ c.if-m.false, omega arith)

pub offset_bounds-offsets-a : goal.offset_bounds-offsets-a
offset_bounds-offsets-a c = omega (arith, (ranges c).entries, c.requires.3, c.requires.4)

pub offset_bounds-offsets-b : goal.offset_bounds-offsets-b
offset_bounds-offsets-b c = omega (arith, (ranges (goal.at.offset_bounds-offsets-b c).Then-m).entries, c.requires.4)

use native.Mathlib.Omega.{arith}
use Rattle.places.proofs.Laws.{never, bare_equal, bare_none}
use Rattle.places.proofs.table.is_bare.Goals as goal

pub offset_bounds-offsets-a : goal.offset_bounds-offsets-a
offset_bounds-offsets-a c = omega (arith, (c.requires.0 c.if-size-gt0.true).entries, c.well_formed)

pub bounds-offsets-a : goal.bounds-offsets-a
bounds-offsets-a c = omega (arith, (c.requires.0 c.if-size-gt0.true).entries)

pub offset_bounds-offsets-b : goal.offset_bounds-offsets-b
offset_bounds-offsets-b c = omega (arith, (c.requires.0 c.if-size-gt0.true).entries)

pub bounds-offsets-b : goal.bounds-offsets-b
bounds-offsets-b c = omega (arith, (c.requires.0 c.if-size-gt0.true).entries)

pub returns-then-offsets-a : goal.returns-then-offsets-a
returns-then-offsets-a c = λ e. never e

pub returns-else-offsets-a : goal.returns-else-offsets-a
returns-else-offsets-a c =
    λ e. bare_equal _ _ _ _ (c.requires.0 c.if-size-gt0.true) _ _ c.requires.1 c.requires.2 c.if-offsets-a.false

pub returns-else-size-gt0 : goal.returns-else-size-gt0
returns-else-size-gt0 c = λ e. bare_none _ _ _ _ c.if-size-gt0.false

use mathlib.Core.Path.{sym, ◌∙◌}
use Prim.Native.Nat.{◌+◌}
use native.Mathlib.Omega.{arith}
use Rattle.players.specs.Inner.{Ranges}
use Rattle.game.specs.Frames.{rows_of}
use Rattle.transpose.specs.Frame.{range_at}
use Rattle.transpose.proofs.frame.range_at.Goals as goal
use Rattle.transpose.proofs.frame.range_at.Goals.{Then-exists}

-- the version has the family, so each frame has a range of its rows
ranges : (c : Then-exists) → let a = c.args in Ranges a.f.counts.frames (rows_of a.f a.family) a.offsets.now
ranges c = c.requires.0.has (sym c.exists.ensures ∙ c.if-exists.true)

pub offset_bounds-offsets-index : goal.offset_bounds-offsets-index
offset_bounds-offsets-index c = omega (arith, (ranges c).entries, c.well_formed.0, c.requires.1)

pub bounds-offsets-index : goal.bounds-offsets-index
bounds-offsets-index c = omega (arith, (ranges (goal.at.bounds-offsets-index c).Then-exists).entries, c.requires.1)

pub overflow_cast-first : goal.overflow_cast-first
overflow_cast-first c = let i = c.args.index in omega (arith, (c.shared_slice_known-then-exists-1.given i).fits)

pub offset_bounds-offsets-index-then-exists : goal.offset_bounds-offsets-index-then-exists
offset_bounds-offsets-index-then-exists c = omega (arith, (ranges (goal.at.offset_bounds-offsets-index-then-exists c).Then-exists).entries, c.well_formed.0, c.requires.1)

pub bounds-offsets-index-then-exists : goal.bounds-offsets-index-then-exists
bounds-offsets-index-then-exists c = omega (arith, (ranges (goal.at.bounds-offsets-index-then-exists c).Then-exists).entries, c.requires.1)

pub overflow_cast-next : goal.overflow_cast-next
overflow_cast-next c = let i = c.args.index in omega (arith, (c.shared_slice_known-then-exists-2-1.given (i + 1)).fits)

pub overflow_sub-result : goal.overflow_sub-result
overflow_sub-result c =
    (ranges (goal.at.overflow_sub-result c).Then-exists).rising c.args.index c.requires.1

pub returns-then-exists : goal.returns-then-exists
unfolding range_at
returns-then-exists c = rw (sym c.exists.ensures ∙ c.if-exists.true)

pub returns : goal.returns
unfolding range_at
returns c = rw (sym c.exists.ensures ∙ c.if-exists.false) c.no_range.ensures

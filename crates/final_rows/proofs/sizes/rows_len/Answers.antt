use mathlib.Core.Path.{ap}
use Prim.Native.Nat.{ℕ, ◌+◌, ◌*◌, ◌-◌}
use native.Mathlib.Omega.{arith}
use lib.ListN.{get_or}
use Rattle.game.specs.Frames.{rows_of}
use Rattle.players.specs.Inner.{Ranges}
use Rattle.final_rows.proofs.Lengths.{size_has, no_rows, rows_few, rows_small}
use Rattle.final_rows.proofs.sizes.rows_len.Goals as goal
use Rattle.final_rows.proofs.sizes.rows_len.Goals.{Else-size-eq0}

ranges : (c : Else-size-eq0) → let a = c.args in Ranges a.f.counts.frames (rows_of a.f a.family) a.offsets.now
ranges c = c.requires.1.has (size_has _ c.args.family c.args.size c.requires.2 c.if-size-eq0.false)

pub returns-then-size-eq0 : goal.returns-then-size-eq0
returns-then-size-eq0 c = (no_rows _ c.args.family c.args.size _ c.requires.2 c.if-size-eq0.true, omega arith)

pub bounds-offsets-i : goal.bounds-offsets-i
bounds-offsets-i c = omega (arith, (ranges (goal.at.bounds-offsets-i c).Else-size-eq0).entries, c.requires.4)

pub overflow_cast-first : goal.overflow_cast-first
overflow_cast-first c = let i = c.args.i in omega (arith, (c.shared_slice_known-1.given i).fits)

pub bounds-offsets-i-2 : goal.bounds-offsets-i-2
bounds-offsets-i-2 c = omega (arith, (ranges (goal.at.bounds-offsets-i-2 c).Else-size-eq0).entries, c.requires.4)

pub overflow_cast-next : goal.overflow_cast-next
overflow_cast-next c = let i = c.args.i in omega (arith, (c.shared_slice_known-2-1.given (i + 1)).fits)

pub overflow_sub-result : goal.overflow_sub-result
overflow_sub-result c = (ranges (goal.at.overflow_sub-result c).Else-size-eq0).rising c.args.i c.requires.4

pub overflow_mul-result : goal.overflow_mul-result
overflow_mul-result c = omega (arith, rows_small _ c.args.size (rows_few _ c.args.family _ c.args.i c.requires.0 (ranges (goal.at.overflow_mul-result c).Else-size-eq0) c.requires.4) c.requires.3)

pub returns : goal.returns
returns c = (
  ap (λ (k : ℕ). (get_or c.args.offsets.now (c.args.i + 1) 0 - get_or c.args.offsets.now c.args.i 0) * k) c.requires.2,
  rows_small _ c.args.size (rows_few _ c.args.family _ c.args.i c.requires.0 (ranges (goal.at.returns c).Else-size-eq0)
      c.requires.4) c.requires.3,
)

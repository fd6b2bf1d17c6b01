use mathlib.Core.Path.{◌≡◌, refl, ap, ◌∙◌}
use mathlib.Core.List.{[], ◌∷◌}
use Prim.Native.Nat.{ℕ, ◌+◌, ◌%◌, ◌^◌, ◌*◌, ◌≤◌, ◌<◌}
use native.Mathlib.Nat.{one-mul, one-le-pow, mod-le}
use native.Mathlib.Omega.{arith}
use lib.Dec.{lit<}
use lib.ListN.{length, get_or}
use lib.Pow.{shl_exact}
use Rattle.wire.proofs.Laws.{pow_8}
use Rattle.gather.specs.Inner.{rows_at}
use Rattle.gather.proofs.Laws.{column_long, down_start, down_step, low_at}
use Rattle.gather.proofs.get_narrow.Goals as goal
use Rattle.gather.proofs.get_narrow.Goals.{After-get_four, In-loop-t}

shifted : (w : ℕ) → w ≤ 4 → 1 * 2 ^ (8 * w) % 2 ^ 64 ≡ 256 ^ w
shifted w h = shl_exact 1 (8 * w) 64 (lit< tt) (omega arith) ∙ one-mul (2 ^ (8 * w)) ∙ pow_8 w

pub loop-t-init : goal.loop-t-init
loop-t-init c = (shifted c.args.width c.requires.0, refl, omega arith, down_start _ _ _ _ _ _ _)

-- a turn's place, and where its cell ends
reach : (c : In-loop-t)
    → get_or c.args.places.now (c.args.i + c.loop-t.t) 0 + (c.args.off + c.args.width) ≤ length c.args.file.now
reach c = c.requires.4 c.loop-t.t c.loop-t-test.true

pub get_four-requires : goal.get_four-requires
get_four-requires c = omega (arith, reach (goal.at.get_four-requires c).In-loop-t, c.loop-t.invariant.1, c.requires.1)

pub nonzero_rem-cells : goal.nonzero_rem-cells
nonzero_rem-cells c = rw c.loop-t.invariant.0 (one-le-pow c.args.width 256 (lit< tt))

pub overflow_cast-cells-in-loop-t : goal.overflow_cast-cells-in-loop-t
overflow_cast-cells-in-loop-t c = rw c.loop-t.invariant.0 (omega (arith, mod-le c.get_four.result (256 ^ c.args.width), c.get_four.type_inv))

inside : (c : After-get_four) → let l = c.loop-t in c.args.first + l.t < length l.cells
inside c = omega (arith, c.requires.2, c.loop-t-test.true, column_long _ _ _ _ _ _ _ _ _ c.loop-t.invariant.3)

pub loop-t-preserved : goal.loop-t-preserved
loop-t-preserved c =
    let a = c.args in
    let l = c.loop-t in
    let (over, base, few, is) = l.invariant in (
      over,
      base,
      omega (arith, c.loop-t-test.true),
      down_step _ _ _ _ _ l.t _ _ _ _ is
          (rw (over, c.get_four.ensures)
          (low_at a.file.now (get_or a.places.now (a.i + l.t) 0) a.off a.width _ (λ i. omega (arith, c.shared_slice_known-1.given i)) c.requires.0 c.requires.1 (reach (goal.at.loop-t-preserved c).In-loop-t) base)),
    )

pub shape_of-cells : goal.shape_of-cells
shape_of-cells c = column_long _ _ _ _ _ _ _ _ _ c.loop-t.invariant.3

pub returns : goal.returns
returns c =
    let l = c.loop-t in
    let a = c.args in
    let e : l.t ≡ 8 = omega (arith, c.loop-t-test.false, l.invariant.2) in
    l.invariant.3 ∙ ap (λ (t : ℕ). rows_at (a.width ∷ []) a.file.now a.places.now a.i a.off t a.cells.now 0 a.first) e

pub overflow_mul-over : goal.overflow_mul-over
overflow_mul-over c = omega (arith, c.requires.0)

pub overflow_shl-over : goal.overflow_shl-over
overflow_shl-over c = omega (arith, c.requires.0)

pub overflow_add-base : goal.overflow_add-base
overflow_add-base c = omega (arith, c.requires.4 0 (omega arith), c.well_formed)

pub overflow_sub-base : goal.overflow_sub-base
overflow_sub-base c = omega (arith, c.requires.1)

pub overflow_add-p : goal.overflow_add-p
overflow_add-p c = omega (arith, c.requires.3, c.loop-t-test.true, c.well_formed)

pub offset_bounds-places-i : goal.offset_bounds-places-i
offset_bounds-places-i c = omega (arith, c.requires.3, c.loop-t-test.true, c.well_formed)

pub bounds-places-i : goal.bounds-places-i
bounds-places-i c = omega (arith, c.requires.3, c.loop-t-test.true)

pub overflow_add-p-in-loop-t : goal.overflow_add-p-in-loop-t
overflow_add-p-in-loop-t c = omega (arith, reach (goal.at.overflow_add-p-in-loop-t c).In-loop-t, c.loop-t.invariant.1, c.requires.1, c.well_formed)

pub overflow_cast-cells : goal.overflow_cast-cells
overflow_cast-cells c = omega (arith, c.get_four.type_inv)

pub overflow_add-cells : goal.overflow_add-cells
overflow_add-cells c = omega (arith, inside c, c.well_formed)

pub offset_bounds-cells-first : goal.offset_bounds-cells-first
offset_bounds-cells-first c = omega (arith, inside c, c.well_formed)

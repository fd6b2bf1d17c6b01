use mathlib.Core.Path.{◌≡◌, refl, sym, ap, ◌∙◌}
use mathlib.Core.List.{List}
use Prim.Native.Nat.{ℕ, ◌+◌, ◌≤◌}
use native.Mathlib.Omega.{arith}
use lib.ListN.{length, drop}
use Rattle.layout.specs.Columns.{sum}
use Rattle.record.specs.Inner.{InStore}
use Rattle.record.proofs.Laws.{read_sum}
use Rattle.gather.specs.Inner.{rows_at}
use Rattle.gather.proofs.Laws.{length_rows, across_step, across_store, across_done, eight_reach, eight_rows}
use Rattle.gather.proofs.get_records.Goals as goal
use Rattle.gather.proofs.get_records.Goals.{After-wide-w}

pub loop-width-init : goal.loop-width-init
loop-width-init c = (c.requires.0, refl, refl, c.requires.2, refl)

-- what a turn knows of its column, and of the bytes that are left
this : (c : After-wide-w)
    → let a = c.args in let l = c.loop-width in
    (c.wide-w.result ≤ 4) × (l.x + 8 ≤ length l.cells) × (a.stride ≤ length l.cells) × InStore (drop (l.width-index + 1) a.widths.now) (length l.cells) a.stride (l.x + a.stride + 7)
this c =
    let a = c.args in
    across_store a.file.now a.places.now 0 _ c.loop-width.width-index _ c.loop-width-test.true c.wide-w.ensures.0 _ _ c.loop-width.x c.loop-width.invariant.3

left : (c : After-wide-w)
    → let a = c.args in let l = c.loop-width in
    l.p + (c.wide-w.result + sum (drop (l.width-index + 1) a.widths.now)) ≡ a.off + sum a.widths.now
left c =
    let l = c.loop-width in
    sym (ap (λ (n : ℕ). l.p + n) (read_sum _ l.width-index _ c.loop-width-test.true c.wide-w.ensures.0)) ∙ l.invariant.2

pub get_column-requires : goal.get_column-requires
get_column-requires c =
    let e = c.eight_at-at.ensures in
    ((this (goal.at.get_column-requires c).After-wide-w).0, c.loop-width.invariant.0, (this (goal.at.get_column-requires c).After-wide-w).1, omega (arith, e.long), λ j h. omega (arith, left (goal.at.get_column-requires c).After-wide-w, eight_reach e c.args.file.now _ c.requires.4 j h))

pub overflow_add-p : goal.overflow_add-p
overflow_add-p c =
    omega (arith, left (goal.at.overflow_add-p c).After-wide-w, c.requires.4 0 (omega arith), c.well_formed)

pub overflow_add-x : goal.overflow_add-x
overflow_add-x c = omega (arith, (this (goal.at.overflow_add-x c).After-wide-w).1, (this (goal.at.overflow_add-x c).After-wide-w).2)

pub loop-width-preserved : goal.loop-width-preserved
loop-width-preserved c =
    let b9 = c in
    let a = b9.args in
    let at = b9.eight_at-at.result in
    let l = c.loop-width in
    let w = c.wide-w.result in
    let g = c.get_column.ensures in
    let long = ap length g ∙ length_rows _ _ _ _ _ _ _ _ _ in (
      omega (arith, l.invariant.0),
      long ∙ l.invariant.1,
      omega (arith, left (goal.at.loop-width-preserved c).After-wide-w),
      rw long (this (goal.at.loop-width-preserved c).After-wide-w).3,
      ap (λ (m : List ℕ). rows_at (drop (l.width-index + 1) a.widths.now) a.file.now at 0 (l.p + w) 8 m a.stride (l.x + a.stride)) g
          ∙ across_step a.file.now at 0 _ l.width-index w c.loop-width-test.true c.wide-w.ensures.0 l.p l.cells a.stride l.x b9.requires.1
          ∙ l.invariant.4,
    )

pub returns : goal.returns
returns c =
    let l = c.loop-width in
    let e = c.eight_at-at in
    let a = c.args in
    sym (across_done a.file.now e.result 0 a.widths.now l.width-index l.p 8 l.cells a.stride l.x c.loop-width-test.false)
    ∙ l.invariant.4
    ∙ eight_rows e.ensures a.widths.now a.file.now a.off 8 a.cells.now a.stride a.first (omega arith)

pub eight_at-at-requires : goal.eight_at-at-requires
eight_at-at-requires c = c.requires.3

pub slice_bounds-get_column-end : goal.slice_bounds-get_column-end
slice_bounds-get_column-end c = sym c.eight_at-at.ensures.long

pub shape_of-cells : goal.shape_of-cells
shape_of-cells c = c.loop-width.invariant.1

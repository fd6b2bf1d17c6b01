use mathlib.Core.Path.{◌≡◌, refl, sym, ap, ◌∙◌}
use Prim.Native.Nat.{ℕ, ◌+◌, ◌-◌, ◌≤◌, ◌<◌}
use native.Mathlib.Omega.{arith}
use lib.ListN.{length, drop, length-set}
use Rattle.wire.specs.Wire.{number, part}
use Rattle.layout.specs.Columns.{sum}
use Rattle.record.specs.Inner.{InStore}
use Rattle.record.proofs.Laws.{read_step, read_sum, read_store, read_done}
use Rattle.record.proofs.get.Goals as goal
use Rattle.record.proofs.get.Goals.{After-wide-w}

pub loop-width-init : goal.loop-width-init
loop-width-init c = (c.requires.0, refl, refl, c.requires.1, refl)

-- what a turn knows of its column, and of the bytes that are left
this : (c : After-wide-w)
    → let a = c.args in let l = c.loop-width in let w = c.wide-w.result in
    (w ≤ 4) × (l.i < length l.cells) × (a.stride ≤ length l.cells) × InStore (drop (l.width-index + 1) a.widths.now) (length l.cells) a.stride (l.i + a.stride)
this c = read_store _ c.loop-width.width-index _ c.loop-width-test.true c.wide-w.ensures.0 _ _ _ c.loop-width.invariant.3

left : (c : After-wide-w)
    → let a = c.args in let l = c.loop-width in
    l.p + (c.wide-w.result + sum (drop (l.width-index + 1) a.widths.now)) ≡ a.at + sum a.widths.now
left c =
    let l = c.loop-width in
    sym (ap (λ (x : ℕ). l.p + x) (read_sum _ l.width-index _ c.loop-width-test.true c.wide-w.ensures.0)) ∙ l.invariant.2

pub loop-width-preserved : goal.loop-width-preserved
loop-width-preserved c =
    let a = c.args in
    let l = c.loop-width in
    let w = c.wide-w.result in
    let place : l.p + w - w ≡ l.p = omega arith in
    let value = c.get_low.ensures ∙ ap (λ (j : ℕ). number (part a.payload.now j w)) place in (
      omega (arith, l.invariant.0),
      simp length-set l.invariant.1,
      omega (arith, left (goal.at.loop-width-preserved c).After-wide-w),
      simp length-set (this (goal.at.loop-width-preserved c).After-wide-w).3,
      read_step _ l.width-index _ c.loop-width-test.true c.wide-w.ensures.0 _ l.p l.cells _ l.i _ value ∙ l.invariant.4,
    )

pub returns : goal.returns
returns c =
    let l = c.loop-width in
    let a = c.args in
    let (e, z) = read_done a.widths.now a.payload.now l.width-index l.p l.cells a.stride l.i c.loop-width-test.false in
    (omega (arith, l.invariant.2), sym e ∙ l.invariant.4)

pub overflow_add-p : goal.overflow_add-p
overflow_add-p c = omega (arith, left c)

pub get_low-requires : goal.get_low-requires
get_low-requires c = ((this c).0, omega (arith, c.loop-width.invariant.0), omega (arith, left c))

pub offset_bounds-cells-i : goal.offset_bounds-cells-i
offset_bounds-cells-i c = omega (arith, this (goal.at.offset_bounds-cells-i c).After-wide-w)

pub bounds-cells-i : goal.bounds-cells-i
bounds-cells-i c = omega (arith, this (goal.at.bounds-cells-i c).After-wide-w)

pub overflow_add-i : goal.overflow_add-i
overflow_add-i c = omega (arith, this (goal.at.overflow_add-i c).After-wide-w)

pub shape_of-cells : goal.shape_of-cells
shape_of-cells c = c.loop-width.invariant.1

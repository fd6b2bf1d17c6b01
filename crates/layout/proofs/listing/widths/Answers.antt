use mathlib.Core.Path.{◌≡◌, refl, ap, ◌∙◌}
use Prim.Native.Nat.{ℕ, ◌+◌, ◌<◌}
use native.Mathlib.Omega.{arith}
use lib.ListN.{length, take, get_or, length-set}
use Rattle.layout.specs.Columns.{col, columns_of, sum, widths_of}
use Rattle.layout.specs.Inner.{count_of, table}
use Rattle.layout.specs.declared.columns.Column.{Column}
use Rattle.layout.proofs.Laws.{packed, unpacked, fits, column_in, sum_take, narrow_of, sum_narrow}
use Rattle.layout.proofs.Prefix.{at_most, copied_step, copied_done}
use Rattle.layout.proofs.listing.widths.Goals as goal
use Rattle.layout.proofs.listing.widths.Goals.{After-column_of-c, In-loop-i}

pub had-count-requires : goal.had-count-requires
unfolding packed table columns_of
had-count-requires c = unpacked

pub loop-i-init : goal.loop-i-init
unfolding sum
loop-i-init c = (omega arith, omega arith, refl, refl, refl)

-- no turn is beyond the family's columns
inside : (c : In-loop-i) → c.loop-i.i < count_of c.args.f
inside c =
    let a = c.args in
    omega (arith, c.loop-i-test.true, c.had-count.ensures.0, at_most a.f a.v)

pub overflow_add-first : goal.overflow_add-first
overflow_add-first c = omega (arith, inside (goal.at.overflow_add-first c).In-loop-i, c.first.ensures, fits c.args.f)

pub offset_bounds-all-first : goal.offset_bounds-all-first
offset_bounds-all-first c = omega (arith, inside (goal.at.offset_bounds-all-first c).In-loop-i, c.first.ensures, fits c.args.f)

pub bounds-all-first : goal.bounds-all-first
bounds-all-first c = omega (arith, inside (goal.at.bounds-all-first c).In-loop-i, c.first.ensures, fits c.args.f)

-- no turn is beyond the family's columns
inside_at_After-column_of-c : (c : After-column_of-c) → c.loop-i.i < count_of c.args.f
inside_at_After-column_of-c c =
    let a = c.args in
    omega (arith, c.loop-i-test.true, c.had-count.ensures.0, at_most a.f a.v)

-- what was read is the width of the family's i-th column
width_is : (c : After-column_of-c)
    → c.column_of-c.result.width ≡ (get_or (columns_of c.args.f) c.loop-i.i (col 0 0 0)).width
unfolding packed table columns_of
width_is c =
    ap (λ (x : Column). x.width)
    (c.column_of-c.ensures
    ∙ column_in (packed table) unpacked c.args.f _ c.loop-i.i c.first.ensures (inside_at_After-column_of-c c))

pub loop-i-preserved : goal.loop-i-preserved
loop-i-preserved c =
    let l = c.loop-i in
    let a = c.args in
    let w = c.column_of-c.result.width in
    let more = c.loop-i-test.true in
    let room : l.i < length l.widths = omega (arith, l.invariant.2, more, c.had-count.ensures.1) in (
      omega (arith, more),
      omega (arith, l.invariant.1, c.wide-bytes.ensures.1),
      simp length-set l.invariant.2,
      ap (λ (k : ℕ). l.bytes + k) c.wide-bytes.ensures.0 ∙ sum_take l.widths l.i w l.bytes room l.invariant.3,
      copied_step a.f l.widths l.i w (inside (goal.at.loop-i-preserved c).In-loop-i) room (width_is (goal.at.loop-i-preserved c).After-column_of-c) l.invariant.4,
    )

pub returns : goal.returns
returns c =
    let l = c.loop-i in
    let f = c.args.f in
    let v = c.args.v in
    let n = c.had-count.ensures in
    let e : l.i ≡ c.had-count.result = omega (arith, l.invariant.0, c.loop-i-test.false) in
    let all = copied_done f v l.widths c.had-count.result n.0 (rw e at l.invariant.4) in
    let bytes : l.bytes ≡ sum (widths_of f v) = l.invariant.3 ∙ ap (λ (k : ℕ). sum (take k l.widths)) e ∙ ap sum all in
    record {
      columns = n.0;
      total = bytes;
      each = all;
      few = n.1;
      room = l.invariant.2;
      small = omega (arith, n.0, n.1, sum_narrow (widths_of f v) (narrow_of f v));
    }

pub bounds-widths-i : goal.bounds-widths-i
bounds-widths-i c = omega (arith, c.loop-i-test.true, c.loop-i.invariant.2, c.had-count.ensures.1)

pub overflow_add-bytes : goal.overflow_add-bytes
overflow_add-bytes c = omega (arith, c.loop-i.invariant.1, c.wide-bytes.ensures.1, c.loop-i-test.true, c.had-count.ensures.1)

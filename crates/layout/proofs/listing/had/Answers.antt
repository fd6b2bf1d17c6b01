use mathlib.Core.Path.{◌∙◌}
use Prim.Native.Nat.{◌-◌}
use native.Mathlib.Omega.{arith}
use Rattle.format.specs.Version.{gte_of}
use Rattle.format.proofs.Tests.{tested}
use Rattle.layout.specs.declared.columns.Column.{Column}
use Rattle.layout.proofs.Laws.{table_long, fits, count_is, column_in, small}
use Rattle.layout.proofs.Prefix.{at_most, last_had, not_had}
use Rattle.layout.proofs.listing.had.Goals as goal

pub loop-n-init : goal.loop-n-init
loop-n-init c = let a = c.args in (omega (arith, c.count-n.ensures), omega (arith, c.count-n.ensures, at_most a.f a.v))

pub overflow_add-first : goal.overflow_add-first
overflow_add-first c = omega (arith, fits c.args.f, c.first.ensures, c.loop-n.invariant.0)

pub offset_bounds-all-first : goal.offset_bounds-all-first
offset_bounds-all-first c = omega (arith, fits c.args.f, c.first.ensures, c.loop-n.invariant.0)

pub bounds-all-first : goal.bounds-all-first
bounds-all-first c =
    omega (arith, table_long c.args.all.now c.requires, fits c.args.f, c.first.ensures, c.loop-n.invariant.0, c.loop-n-test.true)

pub returns-then-gte : goal.returns-then-gte
returns-then-gte c =
    let a = c.args in
    let l = c.loop-n in
    let t = c.loop-n-test.true in
    let column = c.column_of-c.ensures ∙ column_in a.all.now c.requires a.f _ (l.n - 1) c.first.ensures (omega (arith, l.invariant.0, t)) in
    let k = tested (λ (x : Column). gte_of a.v x.major x.minor) column c.gte.ensures c.if-gte.true in
    let h = last_had a.f a.v (l.n - 1) (omega (arith, l.invariant.0, t, count_is a.f)) k in
    (omega (arith, l.invariant.1, h, t), omega (arith, l.invariant.0, small a.f))

pub loop-n-preserved : goal.loop-n-preserved
loop-n-preserved c =
    let a = c.args in
    let l = c.loop-n in
    let t = c.loop-n-test.true in
    let column = c.column_of-c.ensures ∙ column_in a.all.now c.requires a.f _ (l.n - 1) c.first.ensures (omega (arith, l.invariant.0, t)) in
    let k = tested (λ (x : Column). gte_of a.v x.major x.minor) column c.gte.ensures c.if-gte.false in
    (omega (arith, l.invariant.0), not_had a.f a.v (l.n - 1) (omega (arith, l.invariant.0, t, count_is a.f)) k)

pub returns : goal.returns
returns c = (omega (arith, c.loop-n.invariant.1, c.loop-n-test.false), omega arith)

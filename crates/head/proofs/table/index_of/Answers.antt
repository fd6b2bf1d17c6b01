use mathlib.Core.Path.{◌≡◌, refl, ap}
use mathlib.Core.Bool.{true≢false}
use native.Mathlib.Omega.{arith}
use lib.ListN.{length, length-set}
use Rattle.head.proofs.Heads.{once_none, index_twice, index_more}
use Rattle.head.proofs.table.index_of.Goals as goal

pub loop-i-init : goal.loop-i-init
loop-i-init c =
    let b = c.requires.1 in
    (refl, ap length b.empty, once_none _ b)

pub returns-then-spans-c-gt0 : goal.returns-then-spans-c-gt0
returns-then-spans-c-gt0 c =
    let l = c.loop-i in
    let w = c.wide-c.ensures in
    let e = index_twice _ l.i _ l.invariant.2 w.0 w.1 (omega arith) (omega arith) c.if-spans-c-gt0.true in
    rw e (record { value = refl; indexed = λ x. absurd (true≢false x) })

pub loop-i-preserved : goal.loop-i-preserved
loop-i-preserved c =
    let l = c.loop-i in
    let w = c.wide-c.ensures in (
      simp length-set l.invariant.0,
      simp length-set l.invariant.1,
      index_more _ l.i _ l.invariant.2 w.0 w.1 (omega arith) (omega arith) c.if-spans-c-gt0.false _ c.span.ensures,
    )

pub returns : goal.returns
returns c =
    let e : c.loop-i.i ≡ 0 = omega arith in
    let g = rw e at c.loop-i.invariant.2 in
    record { value = rw g.once; indexed = λ x. (g.index, λ j h. g.agree j (omega arith) h) }

pub shape_of-spans-then-spans-c-gt0 : goal.shape_of-spans-then-spans-c-gt0
shape_of-spans-then-spans-c-gt0 c = c.loop-i.invariant.0

pub shape_of-spans : goal.shape_of-spans
shape_of-spans c = c.loop-i.invariant.0

use Prim.Native.Nat.{◌≤◌, ◌-◌}
use mathlib.Core.Path.{◌≡◌, refl, sym, ◌∙◌}
use native.Mathlib.Omega.{arith}
use borrow.Author.Tests.{eq-eqb, ne_eqb}
use lib.ListN.{drop}
use Rattle.ending.specs.Tail.{metadata_key}
use Rattle.head.specs.Table.{starts_with}
use Rattle.head.proofs.Heads.{starts_step}
use Rattle.measure.proofs.tail.has_key.Goals as goal

pub returns-then-tail-i : goal.returns-then-tail-i
returns-then-tail-i c =
    let f = c.args.tail.now in
    sym (c.loop-i.invariant.1 ∙ starts_step metadata_key f c.loop-i.i (omega arith) (omega arith) ∙ simp (ne_eqb _ _ c.if-tail-i.true))

pub loop-i-preserved : goal.loop-i-preserved
loop-i-preserved c =
    let f = c.args.tail.now in
    (omega arith, c.loop-i.invariant.1 ∙ starts_step metadata_key f c.loop-i.i (omega arith) (omega arith) ∙ simp (eq-eqb _ _ c.if-tail-i.false))

pub returns : goal.returns
unfolding starts_with
returns c =
    let e : c.loop-i.i ≡ 11 = omega arith in
    sym (rw e at c.loop-i.invariant.1)

pub loop-i-init : goal.loop-i-init
loop-i-init c = (omega arith, refl)

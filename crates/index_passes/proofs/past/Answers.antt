use Prim.Native.Nat.{◌-◌}
use native.Mathlib.Omega.{arith}
use Rattle.index_passes.specs.Inner.{Passed}
use Rattle.index_passes.proofs.Laws.{passed_none, passed_one}
use Rattle.index_passes.proofs.past.Goals as goal

pub loop-p-preserved : goal.loop-p-preserved
loop-p-preserved c =
    let a = c.args in
    let h = c.requires in
    let s = c.span_of-span in
    let l = c.loop-p in
    passed_one h.0 a.code s.result a.place l.p h.1 l.invariant c.loop-p-test.true s.ensures.0 c.if-span-eq0.false c.if-file-p.false h.3 c.if-stop-p.false

pub span_of-span-requires : goal.span_of-span-requires
span_of-span-requires c = c.requires.0.many

pub returns-then-span-eq0 : goal.returns-then-span-eq0
returns-then-span-eq0 c = passed_none _ _ _ c.requires.2

pub loop-p-init : goal.loop-p-init
loop-p-init c = passed_none _ _ _ c.requires.2

pub bounds-file-p : goal.bounds-file-p
bounds-file-p c = omega (arith, c.requires.0.within)

pub returns-then-file-p : goal.returns-then-file-p
returns-then-file-p c = c.loop-p.invariant

pub returns-then-stop-p : goal.returns-then-stop-p
returns-then-stop-p c = c.loop-p.invariant

pub overflow_add-p : goal.overflow_add-p
overflow_add-p c = omega (arith, c.requires.0.within)

pub loop-p-smaller : goal.loop-p-smaller
loop-p-smaller c = omega (arith, c.if-span-eq0.false)

pub returns : goal.returns
returns c = c.loop-p.invariant

use native.Mathlib.Omega.{arith}
use mathlib.Core.List.{List}
use Prim.Native.Nat.{◌-◌}
use Rattle.format.specs.File.{Ev}
use Rattle.read_judge.specs.Inner.{Covers}
use Rattle.newer_codes.specs.Places.{Laid}
use Rattle.newer_codes.proofs.Places.{Passing, laid_span, laid_next, pass_first, pass_next, pass_known, pass_end}
use Prim.Native.Nat.{◌-◌, ◌≤◌}
use Rattle.newer_codes.proofs.next.next_known.Goals as goal

pub loop-p-init : goal.loop-p-init
loop-p-init c = (omega arith, c.requires, λ raw h. pass_first _ raw)

pub bounds-file-p : goal.bounds-file-p
bounds-file-p c = omega (arith, c.loop-p-test.true, c.loop-p.invariant.1.within)

pub returns-then-is_known : goal.returns-then-is_known
returns-then-is_known c = let l = c.loop-p in (l.invariant.0, l.invariant.1, λ raw h. pass_known _ _ _ _ raw h _ (l.invariant.2 raw h) _ c.is_known.ensures c.if-is_known.true)

pub span_of-p-requires : goal.span_of-p-requires
span_of-p-requires c = c.loop-p.invariant.1.all_codes

pub overflow_add-p : goal.overflow_add-p
overflow_add-p c = let s = laid_span _ _ _ _ c.loop-p.invariant.1 c.loop-p-test.true in omega (arith, s.1, c.span_of-p.ensures.0, c.well_formed)

pub loop-p-smaller : goal.loop-p-smaller
loop-p-smaller c = let s = laid_span _ _ _ _ c.loop-p.invariant.1 c.loop-p-test.true in omega (arith, s.0, s.1, c.span_of-p.ensures.0, c.loop-p-test.true)

pub loop-p-preserved : goal.loop-p-preserved
loop-p-preserved c =
    let l = c.loop-p in
    let n = c.span_of-p.ensures.0 in (
      omega (arith, l.invariant.0),
      laid_next _ _ _ _ l.invariant.1 c.loop-p-test.true _ n,
      λ raw h. pass_next _ _ _ _ raw h _ (l.invariant.2 raw h) c.loop-p-test.true _ c.is_known.ensures c.if-is_known.false _ n,
    )

pub returns : goal.returns
returns c = let l = c.loop-p in (l.invariant.0, l.invariant.1, λ raw h. pass_end _ _ _ _ raw h _ (l.invariant.2 raw h) c.loop-p-test.false)

use native.Mathlib.Omega.{arith}
use mathlib.Core.List.{List}
use Prim.Native.Nat.{◌-◌, ◌*◌, ◌≤◌}
use Rattle.format.specs.File.{Ev}
use Rattle.read_judge.specs.Inner.{Covers}
use Rattle.newer_codes.specs.Places.{Laid}
use Rattle.newer_codes.proofs.Places.{laid_under}
use Rattle.newer_codes.proofs.Runs.{Going, full_next, go_first, go_next, go_done}
use mathlib.Core.Bool.{true}
use mathlib.Core.Path.{◌≡◌}
use Rattle.format.specs.declared.version.Version.{Version}
use Rattle.known.specs.Known.{is_newer}
use Rattle.newer_codes.proofs.blocks.Goals as goal

pub loop-at-init : goal.loop-at-init
loop-at-init c = let h = c.requires in (h.0, omega arith, λ v raw new d. go_first v new _ _ _ _ raw d h.1 h.2)

pub is_full-requires : goal.is_full-requires
is_full-requires c = c.loop-at.invariant.0

pub span_of-requires : goal.span_of-requires
span_of-requires c = c.loop-at.invariant.0.all_codes

pub overflow_add-at : goal.overflow_add-at
overflow_add-at c = omega (arith, (c.is_full.ensures.1 c.loop-at-test.true).1, c.span_of.ensures.0, c.well_formed)

pub next_known-at-requires : goal.next_known-at-requires
next_known-at-requires c = full_next _ _ _ _ c.loop-at.invariant.0 _ c.is_full.ensures.0 c.loop-at-test.true _ c.span_of.ensures.0

pub overflow_add-n : goal.overflow_add-n
overflow_add-n c = omega (arith, c.loop-at.invariant.1, c.well_formed, (c.is_full.ensures.1 c.loop-at-test.true).1)

pub loop-at-smaller : goal.loop-at-smaller
loop-at-smaller c = omega (arith, c.next_known-at.ensures.0, laid_under _ _ _ _ c.next_known-at.ensures.1, c.span_of.ensures.0, (c.is_full.ensures.1 c.loop-at-test.true).0)

pub loop-at-preserved : goal.loop-at-preserved
loop-at-preserved c =
    let l = c.loop-at in
    let n = c.span_of.ensures.0 in
    let k = c.next_known-at.ensures in
    let f = c.is_full.ensures in
    let t = c.loop-at-test.true in (
      k.1,
      omega (arith, l.invariant.1, k.0, n, (f.1 t).0),
      λ v raw new d. go_next v new _ _ _ _ raw d _ _ (l.invariant.2 v raw new d) _ f.0 t _ n _ k.2,
    )

pub last_block-requires : goal.last_block-requires
last_block-requires c = (c.loop-at.invariant.0, omega (arith, c.loop-at.invariant.1))

pub returns : goal.returns
returns c = λ v raw new d. let h = c.requires in go_done v new _ _ _ _ raw d _ _ (c.loop-at.invariant.2 v raw new d) h.1 h.2 _ c.is_full.ensures.0 c.loop-at-test.false _ c.last_block.ensures

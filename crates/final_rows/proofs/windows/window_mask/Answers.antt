use Rattle.rollback.proofs.Places.{placed}
use Rattle.final_rows.proofs.Marks.{seen_none, turn_seen, turn_read, lost_none, lost_set, lost_skip, lost_long}
use mathlib.Core.Path.{◌≡◌, refl, sym, subst, ◌∙◌}
use Prim.Native.Nat.{ℕ}
use native.Mathlib.Omega.{arith}
use Rattle.final_rows.specs.Inner.{Lost}
use Rattle.final_rows.proofs.windows.window_mask.Goals as goal

pub loop-k-init : goal.loop-k-init
loop-k-init c =
    (omega arith, seen_none _ _ _ _ refl refl, lost_none _ _ _)

pub slice_bounds-seen-end : goal.slice_bounds-seen-end
slice_bounds-seen-end c =
    sym c.loop-k.invariant.1.long

pub seen-requires : goal.seen-requires
seen-requires c =
    c.loop-k.invariant.1.long

pub bounds-mask-k : goal.bounds-mask-k
bounds-mask-k c =
    omega (arith, lost_long c.loop-k.invariant.2 c.requires.0)

pub loop-k-preserved-then-seen : goal.loop-k-preserved-then-seen
loop-k-preserved-then-seen c =
    let ok = placed c.args.ids.now c.shared_slice_known-in-loop-k-1.given c.requires.1 in
    let here = c.place_of-p.ensures.0 in
    let seen = c.loop-k.invariant.1 in
    let lost = turn_read seen c.loop-k-test.true c.loop-k.invariant.0 here ok c.seen.ensures.0 in (
      omega arith,
      turn_seen seen c.loop-k-test.true c.loop-k.invariant.0 here c.seen.ensures.1,
      lost_set c.loop-k.invariant.2 c.loop-k-test.true (omega (arith, lost_long c.loop-k.invariant.2 c.requires.0)) (sym lost ∙ c.if-seen.true),
    )

pub loop-k-preserved : goal.loop-k-preserved
loop-k-preserved c =
    let ok = placed c.args.ids.now c.shared_slice_known-in-loop-k-1.given c.requires.1 in
    let here = c.place_of-p.ensures.0 in
    let seen = c.loop-k.invariant.1 in
    let lost = turn_read seen c.loop-k-test.true c.loop-k.invariant.0 here ok c.seen.ensures.0 in (
      omega arith,
      turn_seen seen c.loop-k-test.true c.loop-k.invariant.0 here c.seen.ensures.1,
      lost_skip c.loop-k.invariant.2 c.loop-k-test.true (sym lost ∙ c.if-seen.false),
    )

pub shape_of-mask : goal.shape_of-mask
shape_of-mask c =
    c.loop-k.invariant.2.long

pub returns : goal.returns
returns c =
    let e : c.loop-k.k ≡ 0 = omega arith in subst (λ (k : ℕ). Lost c.args.ids.now c.args.base k c.args.mask.now c.loop-k.mask) e c.loop-k.invariant.2

use mathlib.Core.Path.{◌≡◌, sym, ap, ◌∙◌}
use mathlib.Core.List.{List}
use Prim.Native.Nat.{ℕ, ◌+◌, ◌*◌}
use native.Mathlib.Omega.{arith}
use Rattle.std.proofs.lemmas.Grind.{div_ceil_times}
use lib.Dec.{lit<}
use lib.ListN.{length, get_or}
use Rattle.rollback.specs.Mask.{needed}
use Rattle.final_rows.proofs.Marks.{zero_at, swept_none, swept_more, swept_all}
use Rattle.final_rows.proofs.windows.mask_rows.Goals as goal

pub loop-w-init : goal.loop-w-init
loop-w-init c =
    let zeros = c.fill.ensures.after (λ y e. e) in
    swept_none (c.fill.ensures.len ∙ c.requires.0) (λ i. ap (λ (xs : List ℕ). get_or xs i 0) zeros ∙ zero_at (length c.args.mask.now) i)

pub window_mask-requires : goal.window_mask-requires
window_mask-requires c =
    (c.loop-w.invariant.long, c.requires.1)

pub loop-w-preserved : goal.loop-w-preserved
loop-w-preserved c =
    let e : c.loop-w.w * 32768 + 32768 ≡ (c.loop-w.w + 1) * 32768 = omega arith in
    rw e at (swept_more c.loop-w.invariant c.window_mask.ensures)

pub shape_of-mask : goal.shape_of-mask
shape_of-mask c =
    c.loop-w.invariant.long ∙ sym c.requires.0

pub returns : goal.returns
returns c =
    swept_all c.loop-w.invariant (omega (arith, c.scratch_len.ensures, c.div_ceil-w-end.ensures, (div_ceil_times (needed c.args.ids.now) 32768 (lit< tt)).0, c.loop-w-test.false))

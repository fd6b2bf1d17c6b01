use mathlib.Core.Path.{◌≡◌, sym, ap, ap₂, ◌∙◌}
use Prim.Native.Nat.{ℕ, ◌+◌, ◌*◌}
use native.Mathlib.Omega.{arith}
use Rattle.std.proofs.lemmas.Grind.{div_ceil_times}
use lib.Dec.{lit<}
use lib.ListN.{length, get_or}
use Rattle.game.specs.Stores.{offsets}
use Rattle.rollback.specs.Mask.{place, needed}
use Rattle.rollback.proofs.Places.{below_needed}
use Rattle.final_rows.specs.Inner.{length_of, is_lost}
use Rattle.game.specs.Held.{offsets_in}
use Rattle.final_rows.proofs.Sums.{up_to, window_first, window_next, window_last, up_to_most}
use Rattle.final_rows.proofs.windows.lost_len.Goals as goal
use Rattle.final_rows.proofs.windows.lost_len.Goals.{After-window_len-n}

pub loop-w-init : goal.loop-w-init
loop-w-init c =
    sym
    (window_first (λ i. place (get_or c.args.ids.now i 0)) (is_lost c.args.ids.now) (length_of c.args.f (offsets_in c.args.offsets.now) c.args.presence.now) (length
    c.args.ids.now))

pub window_len-n-requires : goal.window_len-n-requires
window_len-n-requires c =
    c.requires

-- one window more
next : (c : After-window_len-n)
    → let a = c.args in
    c.loop-w.n + c.window_len-n.result
    ≡ up_to (λ i. place (get_or a.ids.now i 0)) (is_lost a.ids.now) (length_of a.f (offsets_in a.offsets.now) a.presence.now)
    (length a.ids.now) ((c.loop-w.w + 1) * 32768)
next c =
    let sum : ℕ → ℕ = up_to (λ i. place (get_or c.args.ids.now i 0)) (is_lost c.args.ids.now) (length_of c.args.f (offsets_in c.args.offsets.now) c.args.presence.now) (length c.args.ids.now) in
    let e : c.loop-w.w * 32768 + 32768 ≡ (c.loop-w.w + 1) * 32768 = omega arith in
    ap₂ (λ (x y : ℕ). x + y) c.loop-w.invariant c.window_len-n.ensures ∙ window_next (λ i. place (get_or c.args.ids.now i 0)) (is_lost c.args.ids.now)
    (length_of c.args.f (offsets_in c.args.offsets.now) c.args.presence.now) (length c.args.ids.now) (c.loop-w.w * 32768) ∙ ap sum e

pub overflow_add-n : goal.overflow_add-n
overflow_add-n c =
    omega (
      arith,
      next c,
      up_to_most (λ i. place (get_or c.args.ids.now i 0)) (is_lost c.args.ids.now) (length_of c.args.f (offsets_in c.args.offsets.now)
          c.args.presence.now) (length c.args.ids.now) ((c.loop-w.w + 1) * 32768),
      c.requires.1.total,
    )

pub loop-w-preserved : goal.loop-w-preserved
loop-w-preserved c = next c

pub returns : goal.returns
returns c =
    c.loop-w.invariant ∙ window_last (λ i. place (get_or c.args.ids.now i 0)) (is_lost c.args.ids.now)
    (length_of c.args.f (offsets_in c.args.offsets.now) c.args.presence.now) (length c.args.ids.now) (c.loop-w.w * 32768) (λ i h. omega (
      arith,
      below_needed
          c.args.ids.now i h,
      c.scratch_len.ensures,
      c.div_ceil-windows.ensures,
      (div_ceil_times (needed c.args.ids.now) 32768 (lit< tt)).0,
      c.loop-w-test.false,
    ))

use native.Mathlib.Nat.{sub-zero}
use mathlib.Core.Path.{◌≡◌, refl, sym, ap, ◌∙◌}
use mathlib.Core.Bool.{cond}
use Prim.Native.Nat.{ℕ, ◌+◌, ◌-◌, ◌≤◌}
use native.Mathlib.Omega.{arith}
use lib.ListN.{length}
use Rattle.wire.proofs.Sums.{summed}
use Rattle.game.specs.Stores.{offsets}
use Rattle.final_rows.specs.Inner.{length_of, lost_here}
use Rattle.rollback.proofs.Places.{placed}
use Rattle.game.specs.Held.{offsets_in}
use Rattle.final_rows.proofs.Marks.{Seen, seen_none, turn_seen, turn_read}
use Rattle.final_rows.proofs.Sums.{back_most, back_in, back_out, summed_none}
use Rattle.final_rows.proofs.windows.window_len.Goals as goal
use Rattle.final_rows.proofs.windows.window_len.Goals.{After-frame_len-n}

pub loop-k-init : goal.loop-k-init
loop-k-init c =
    (omega arith, seen_none _ _ _ _ refl refl, sym (summed_none _ _ _ (omega arith)))

pub slice_bounds-seen-end : goal.slice_bounds-seen-end
slice_bounds-seen-end c =
    sym c.loop-k.invariant.1.long

pub seen-requires : goal.seen-requires
seen-requires c =
    c.loop-k.invariant.1.long

pub frame_len-n-requires : goal.frame_len-n-requires
frame_len-n-requires c =
    let t = c.requires.1 in
    (t.modest, t.slots, c.requires.0, (t.items, t.fods, t.whispys, t.stadiums), omega (arith, t.ids_are, c.loop-k.invariant.0, c.loop-k-test.true))

-- row k - 1 is not final, so its bytes are added
added : (c : After-frame_len-n)
    → let a = c.args in
    let o = offsets_in a.offsets.now in
    c.loop-k.n + length_of a.f o a.presence.now (c.loop-k.k - 1)
    ≡ summed (λ i. cond (lost_here a.ids.now a.base i) (length_of a.f o a.presence.now i) 0) (c.loop-k.k - 1) (length a.ids.now - (c.loop-k.k - 1))
added c =
    let test = c.loop-k-test.true in
    let ok = placed c.args.ids.now c.shared_slice_known-in-loop-k-1.given c.requires.1.range in
    let here = c.place_of-p.ensures.0 in
    let lost = turn_read c.loop-k.invariant.1 test c.loop-k.invariant.0 here ok c.seen.ensures.0 in
    back_in (lost_here c.args.ids.now c.args.base) (length_of c.args.f (offsets_in c.args.offsets.now) c.args.presence.now) (length c.args.ids.now) c.loop-k.k
    c.loop-k.n c.loop-k.invariant.0 c.loop-k.invariant.2 test (sym lost ∙ c.if-seen.true)

most : (c : After-frame_len-n)
    → let a = c.args in
    let o = offsets_in a.offsets.now in
    c.loop-k.n + length_of a.f o a.presence.now (c.loop-k.k - 1) ≤ summed (length_of a.f o a.presence.now) 0 (length a.ids.now)
most c =
    back_most (lost_here c.args.ids.now c.args.base) (length_of c.args.f (offsets_in c.args.offsets.now) c.args.presence.now) (length c.args.ids.now) (c.loop-k.k - 1) _
    (omega (arith, c.loop-k.invariant.0)) (added c)

pub overflow_add-n : goal.overflow_add-n
overflow_add-n c =
    omega (arith, c.frame_len-n.ensures, most c, c.requires.1.total)

pub loop-k-preserved-then-seen : goal.loop-k-preserved-then-seen
loop-k-preserved-then-seen c =
    let here = c.place_of-p.ensures.0 in
    (omega arith, turn_seen c.loop-k.invariant.1 c.loop-k-test.true c.loop-k.invariant.0 here c.seen.ensures.1, ap (λ (m : ℕ). c.loop-k.n + m) c.frame_len-n.ensures ∙ added c)

pub loop-k-preserved : goal.loop-k-preserved
loop-k-preserved c =
    let ok = placed c.args.ids.now c.shared_slice_known-in-loop-k-1.given c.requires.1.range in
    let here = c.place_of-p.ensures.0 in
    let lost = turn_read c.loop-k.invariant.1 c.loop-k-test.true c.loop-k.invariant.0 here ok c.seen.ensures.0 in (
      omega arith,
      turn_seen c.loop-k.invariant.1 c.loop-k-test.true c.loop-k.invariant.0 here c.seen.ensures.1,
      back_out (lost_here c.args.ids.now c.args.base) (length_of c.args.f (offsets_in c.args.offsets.now) c.args.presence.now) (length c.args.ids.now) c.loop-k.k
          c.loop-k.n c.loop-k.invariant.0 c.loop-k.invariant.2 c.loop-k-test.true (sym lost ∙ c.if-seen.false),
    )

pub returns : goal.returns
returns c =
    let e : c.loop-k.k ≡ 0 = omega arith in
    let lost : ℕ → ℕ = λ i. cond (lost_here c.args.ids.now c.args.base i) (length_of c.args.f (offsets_in c.args.offsets.now) c.args.presence.now i) 0 in
    c.loop-k.invariant.2 ∙ ap (λ (k : ℕ). summed lost k (length c.args.ids.now - k)) e ∙ ap (summed lost 0) (sub-zero (length c.args.ids.now))

-- A run that is lent as a small game of its own is the large game's run: of the definitions, and of the calls.
-- Assumes nothing.
use mathlib.Core.Path.{◌≡◌, sym, ap, ap₂, ◌∙◌}
use mathlib.Core.List.{List}
use Prim.Native.Nat.{ℕ, ◌+◌, ◌-◌, ◌≤◌}
use native.Mathlib.Omega.{arith}
use lib.ListN.{length}
use Rattle.wire.specs.Wire.{ranged}
use Rattle.wire.proofs.Writers.{wrote_as}
use Rattle.format.specs.File.{events_bytes}
use Rattle.format.specs.Refusal.{lowest}
use Rattle.game.specs.Stores.{Lent}
use Rattle.game.specs.declared.frames.Frames.{Frames}
use Rattle.frames.specs.Judge.{refusals}
use Rattle.frames.specs.Inner.{Accepted}
use Rattle.frames.proofs.Accepted.{accepted}
use Rattle.events.specs.Events.{frame_events}
use Rattle.std.specs.Prelude.{Ok}
use Rattle.append.specs.Run.{run_events, run_bytes, RunOutcome}
use Rattle.append.proofs.Runs.{ran, ran_is}
use Rattle.law_part.specs.Part.{Part}
use Rattle.law_part.proofs.Rows.{ranged_along}
use Rattle.law_part.proofs.Events.{frame_is}

module _ {f : Frames} {s : Lent} {a b : ℕ} {small : Frames} {own : Lent} (p : Part f s a b small own) where
  -- any of its runs is a run of the large game, a frames further on
  pub run_is : Accepted small own → (i k : ℕ) → i ≤ k → k ≤ small.counts.frames → run_bytes small own i k ≡ run_bytes f s (a + i) (a + k)
  unfolding run_events
  run_is acc i k h l =
      let n : k - i ≡ a + k - (a + i) = omega arith in
      ap events_bytes
      (ranged_along (frame_events small own) (frame_events f s) i (a + i) (k - i)
      (λ r m. let q : a + (i + r) ≡ a + i + r = omega arith in frame_is p acc (i + r) (omega (arith, m, h, l)) ∙ ap (frame_events f s) q)
      ∙ ap (ranged (frame_events f s) (a + i)) n)

  -- all of it
  pub all_is : Accepted small own → run_bytes small own 0 small.counts.frames ≡ run_bytes f s a b
  all_is acc =
      let first : a + 0 ≡ a = omega arith in
      run_is acc 0 small.counts.frames (omega arith) (omega arith) ∙ ap₂ (run_bytes f s) first p.frames

  module _ {place e : ℕ} {out out' : List ℕ} where
    -- of the calls: what a call for the small game's frames answers and leaves, a call for the large game's run answers and leaves
    pub as_large : lowest (refusals f s 0 0) ≡ 0 → RunOutcome small own 0 small.counts.frames place out (Ok e) out' → RunOutcome f s a b place out (Ok e) out'
    as_large ok o =
        let r = ran o in
        let same = all_is (accepted small own 0 0 r.judged) in
        ran_is (record { judged = ok; order = omega (arith, p.frames); within = p.within; fits = omega (arith, r.fits, ap length same); wrote = wrote_as same r.wrote })

    -- and the other way round
    pub as_small : lowest (refusals small own 0 0) ≡ 0 → RunOutcome f s a b place out (Ok e) out' → RunOutcome small own 0 small.counts.frames place out (Ok e) out'
    as_small ok o =
        let r = ran o in
        let same = all_is (accepted small own 0 0 ok) in
        ran_is (record { judged = ok; order = omega arith; within = omega arith; fits = omega (arith, r.fits, ap length same); wrote = wrote_as (sym same) r.wrote })

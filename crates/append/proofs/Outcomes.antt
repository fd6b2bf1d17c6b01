-- What the calls answer, judge after judge.
-- Assumes nothing.
use mathlib.Core.Path.{◌≡◌, refl, sym, ap, ◌∙◌}
use mathlib.Core.Bool.{Bool, true, false}
use mathlib.Core.List.{List, [], ◌∷◌}
use Prim.Native.Nat.{ℕ, zero, suc, ◌+◌, ◌≤◌, ◌<◌}
use native.Mathlib.Omega.{arith}
use borrow.Author.Tests.{lt-ltb, le-ltb, ltb-false}
use lib.Dec.{ltb}
use lib.ListN.{length}
use Rattle.wire.specs.Wire.{Room, Wrote}
use Rattle.std.specs.Prelude.{Ok, Err}
use Rattle.format.specs.Refusal.{Refusal, refuse, lowest}
use Rattle.format.specs.Refused.{number_of}
use Rattle.format.specs.declared.refusal.Refusal as code
use Rattle.format.specs.declared.refusal.Refusal.TheVariants.{ShortOutput, OutOfRange}
use Rattle.format.proofs.Numbers.{not_zero}
use Rattle.format.proofs.Refusals.{here, skip, none, lowest_before, lowest_after}
use Rattle.format.proofs.Tests.{or_none}
use Rattle.game.specs.Stores.{Lent}
use Rattle.game.specs.declared.frames.Frames.{Frames}
use Rattle.frames.specs.Judge.{refusals}
use Rattle.frames.proofs.Accepted.{numbered, accepted}
use Rattle.events.specs.Length.{run_length}
use Rattle.events.proofs.Lengths.{length_run}
use Rattle.append.specs.Run.{run_events, run_bytes, outside_frames, run_refusal, append_numbers, AppendedNumbers, left_at, RunOutcome}
use Rattle.append.proofs.Lengths.{framed}

-- ---- the range
pub in_order_lem : (f : Frames) (a b : ℕ) → outside_frames f a b ≡ false → (a ≤ b) × (b ≤ f.counts.frames)
unfolding outside_frames
in_order_lem f a b e = let (x, y) = or_none (ltb b a) (ltb f.counts.frames b) e in (ltb-false b a x, ltb-false f.counts.frames b y)

pub inside_frames : (f : Frames) (a b : ℕ) → a ≤ b → b ≤ f.counts.frames → outside_frames f a b ≡ false
unfolding outside_frames
inside_frames f a b h l = rw (le-ltb b a h, le-ltb f.counts.frames b l)

-- frame i alone is outside where i is not below the frames
pub beyond_frames : (f : Frames) (i : ℕ) → f.counts.frames ≤ i → outside_frames f i (i + 1) ≡ true
unfolding outside_frames
beyond_frames f i h = let n : i ≤ i + 1 = omega arith in let m : f.counts.frames < i + 1 = omega arith in rw (le-ltb (i + 1) i n, lt-ltb f.counts.frames (i + 1) m)

-- a game that is accepted: the range and the room decide
pub decided : (f : Frames) (s : Lent) (a b place room : ℕ) → lowest (refusals f s 0 0) ≡ 0
    → run_refusal f s a b place room ≡ lowest (refuse 13 (outside_frames f a b) ∷ refuse 12 (ltb room (place + length (run_bytes f s a b))) ∷ [])
unfolding run_refusal
decided f s a b place room e = lowest_after (refusals f s 0 0) _ (numbered f s 0 0) e

-- ---- the answers
refused_as_lem : (k m place : ℕ) (out bytes : List ℕ) → (k ≡ 0 → ⊥)
    → (◌≡◌ {A = AppendedNumbers} (record { kind = 1; number = k; end = 0 }) (append_numbers k m)) × (out ≡ left_at k out place bytes)
refused_as_lem zero m place out bytes h = absurd (h refl)
refused_as_lem (suc k) m place out bytes h = (refl, refl)

module _ (f : Frames) (s : Lent) (a b place : ℕ) (out : List ℕ) where
  abbrev bytes : List ℕ
  bytes = run_bytes f s a b

  abbrev last : List Refusal
  last = refuse 13 (outside_frames f a b) ∷ refuse 12 (ltb (length out) (place + length bytes)) ∷ []

  outcome_refused : (r : code.Refusal) → number_of r ≡ run_refusal f s a b place (length out) → RunOutcome f s a b place out (Err r) out
  outcome_refused r e =
      let (x, y) = refused_as_lem (number_of r) (place + length bytes) place out bytes (not_zero r) in
      record {
        answer_is = x ∙ ap (λ (i : ℕ). append_numbers i (place + length bytes)) e;
        out_is = y ∙ ap (λ (i : ℕ). left_at i out place bytes) e;
      }

  pub judged_refused : (r : code.Refusal) → number_of r ≡ lowest (refusals f s 0 0) → RunOutcome f s a b place out (Err r) out
  unfolding run_refusal
  judged_refused r e = outcome_refused r (e ∙ sym (lowest_before (refusals f s 0 0) last (λ z. not_zero r (e ∙ z))))

  module _ (e : lowest (refusals f s 0 0) ≡ 0) where
    pub outside_refused : outside_frames f a b ≡ true → RunOutcome f s a b place out (Err OutOfRange) out
    outside_refused t = outcome_refused OutOfRange (here 13 _ _ t ∙ sym (decided f s a b place (length out) e))

    module _ (inside : outside_frames f a b ≡ false) where
      pub short_refused : ltb (length out) (place + length bytes) ≡ true → RunOutcome f s a b place out (Err ShortOutput) out
      short_refused t = outcome_refused ShortOutput (skip 13 _ _ _ inside (here 12 _ _ t) ∙ sym (decided f s a b place (length out) e))

      pub run_written : {after : List ℕ} {next : ℕ} → ltb (length out) (place + length bytes) ≡ false → Wrote out after place next bytes → RunOutcome f s a b place out (Ok next) after
      run_written t w =
          let z : 0 ≡ run_refusal f s a b place (length out) = skip 13 _ _ _ inside (skip 12 _ _ _ t none) ∙ sym (decided f s a b place (length out) e) in
          record {
            answer_is = ap (append_numbers 0) w.next_is ∙ ap (λ (i : ℕ). append_numbers i (place + length bytes)) z;
            out_is = w.after_is ∙ ap (λ (i : ℕ). left_at i out place bytes) z;
          }

-- ---- room, as the code finds it by counts
module _ (f : Frames) (s : Lent) (a b : ℕ) (e : lowest (refusals f s 0 0) ≡ 0) (inside : outside_frames f a b ≡ false) where
  pub run_size : length (run_bytes f s a b) ≡ run_length f s.offsets s.presence a b
  unfolding run_events
  run_size = let (order, within) = in_order_lem f a b inside in length_run f s (framed (accepted f s 0 0 e)) a b order within

  pub short_as : (room place : ℕ) {len : ℕ} {t x : Bool} → len ≡ run_length f s.offsets s.presence a b → t ≡ ltb room (place + len) → t ≡ x
      → ltb room (place + length (run_bytes f s a b)) ≡ x
  short_as room place l h q = ap (λ (k : ℕ). ltb room (place + k)) (run_size ∙ sym l) ∙ sym h ∙ q

pub run_room : {out : List ℕ} {place : ℕ} {bytes : List ℕ} → ltb (length out) (place + length bytes) ≡ false → Room out place bytes
run_room {out} {place} {bytes} h = record { fits = ltb-false (length out) (place + length bytes) h }

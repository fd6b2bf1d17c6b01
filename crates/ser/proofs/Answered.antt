-- Demand 3, from the call: whatever `write` answered with a file and left in the output.
--
--   For every accepted replay, the length field equals the bytes from the payload table through the last event. Cut that file after any byte: once
--   the table is whole, the reader returns exactly the events after the table that lie wholly before the cut, in order and unaltered, and the exact
--   number of stray event bytes. It calls the event data whole exactly when all of it is there. A cut before the table is whole is refused by name.
--
-- Assumes nothing.
use mathlib.Core.Path.{◌≡◌, sym, ap, ◌∙◌}
use mathlib.Core.Bool.{false}
use mathlib.Core.List.{List, [], ◌∷◌, ◌++◌}
use Prim.Native.Nat.{ℕ, zero, suc, ◌+◌, ◌-◌, ◌≤◌, ◌<◌}
use native.Mathlib.Omega.{arith}
use borrow.Author.Tests.{ltb-false}
use lib.Dec.{leb, ltb}
use lib.ListN.{length, take}
use lib.Seq.{take-append_seam}
use Rattle.wire.specs.Wire.{number, part, splice}
use Rattle.wire.proofs.Laws.{splice_is}
use Rattle.format.specs.File.{table_bytes, events_bytes}
use Rattle.format.specs.Refusal.{refuse, lowest}
use Rattle.format.proofs.Refusals.{passed, lowest_after, lowest_first}
use Rattle.head.specs.Table.{first_place}
use Rattle.head.specs.Step.{step_of}
use Rattle.head.specs.declared.Step.TheVariants as step
use Rattle.de.specs.Walk.{walk_of}
use Rattle.de.specs.Cut.{events_read}
use Rattle.de.specs.declared.Walked.TheVariants as walked
use Rattle.game.specs.Stores.{Stores}
use Rattle.game.specs.declared.Game.{Game}
use Rattle.std.specs.Prelude.{Ok}
use Rattle.ser.specs.Write.{entries, events, file, judged, refusal, write_numbers, WrittenNumbers, written_numbers, left, WriterOutcome}
use Rattle.ser.proofs.Outcomes.{Passed, not_refused, numbered_eleven}
use Rattle.ser.proofs.Sound as sound
use Rattle.ser.proofs.EveryCut as every

-- a file is answered where nothing is refused, and its length is the file's
answered_file : (k n m : ℕ) → written_numbers (Ok n) ≡ write_numbers k m → (k ≡ 0) × (n ≡ m)
answered_file zero n m e = (refl_of zero, ap (λ (w : WrittenNumbers). w.len) e)
  where
    refl_of : (k : ℕ) → k ≡ k
    refl_of k i = k
answered_file (suc k) n m e = let z : ◌≡◌ {A = ℕ} 0 1 = ap (λ (w : WrittenNumbers). w.kind) e in absurd (omega arith)

left_file : (k : ℕ) (out f : List ℕ) → k ≡ 0 → left k out f ≡ splice out 0 f
left_file zero out f e = λ i. splice out 0 f
left_file (suc k) out f e = absurd (omega arith)

module _ {g : Game} {s : Stores} {out out' : List ℕ} {n : ℕ} (o : WriterOutcome g s out (Ok n) out') where
  pub none_applies : (refusal g s (length out) ≡ 0) × (n ≡ length (file g s))
  none_applies = answered_file (refusal g s (length out)) n (length (file g s)) o.answer_is

  pub accepted : Passed g s
  accepted = not_refused g s (length out) none_applies.0

  pub none_judged : lowest (judged g s) ≡ 0
  unfolding refusal
  none_judged = lowest_first (judged g s) _ none_applies.0

  -- 12 does not apply: there is room
  pub room : length (file g s) ≤ length out
  unfolding refusal
  room =
      let e = none_applies.0 in
      let last = lowest_after (judged g s) (refuse 12 (ltb (length out) (length (file g s))) ∷ []) (numbered_eleven g s) none_judged in
      ltb-false (length out) (length (file g s)) (passed 11 _ _ (sym last ∙ e)).0

  pub left_is : out' ≡ splice out 0 (file g s)
  left_is = o.out_is ∙ left_file (refusal g s (length out)) out (file g s) none_applies.0

  -- the first n bytes of the output are the file
  pub written_file : take n out' ≡ file g s
  written_file =
      ap (λ (k : ℕ). take k out') none_applies.1
      ∙ ap (take (length (file g s))) (left_is ∙ splice_is out 0 (file g s) (omega (arith, room)))
      ∙ take-append_seam (file g s) _

  -- its length field
  pub length_field : number (part (take n out') 11 4) ≡ length (table_bytes (entries g s) ++ events_bytes (events g s))
  length_field = ap (λ (f : List ℕ). number (part f 11 4)) written_file ∙ sound.length_field accepted

  -- cut after its first k bytes
  abbrev pub cut : ℕ → List ℕ
  cut k = take k (take n out')

  cut_is : (k : ℕ) → cut k ≡ take k (file g s)
  cut_is k = ap (take k) written_file

  pub under_15 : (k : ℕ) → k < 15 → (walk_of (cut k) ≡ walked.Refused 14 0) × ((place : ℕ) → step_of (cut k) place ≡ step.Refused 14 0)
  under_15 k h =
      let (w, a) = every.under_15 accepted k h in
      (ap walk_of (cut_is k) ∙ w, λ place. ap (λ (f : List ℕ). step_of f place) (cut_is k) ∙ a place)

  pub in_table : (k : ℕ) → 15 ≤ k → k < first_place (entries g s) → (walk_of (cut k) ≡ walked.Refused 15 15) × ((place : ℕ) → step_of (cut k) place ≡ step.Refused 15 15)
  in_table k h l =
      let (w, a) = every.in_table accepted k h l in
      (ap walk_of (cut_is k) ∙ w, λ place. ap (λ (f : List ℕ). step_of f place) (cut_is k) ∙ a place)

  pub found : (k : ℕ) → first_place (entries g s) ≤ k → events_read (cut k) ≡ every.before accepted k
  found k h = ap events_read (cut_is k) ∙ every.found accepted k h

  pub walk : (k : ℕ) → first_place (entries g s) ≤ k
      → walk_of (cut k)
      ≡ walked.Done (length (every.before accepted k)) (every.present accepted k - length (events_bytes (every.before accepted k)))
      (leb (15 + length (table_bytes (entries g s) ++ events_bytes (events g s))) k)
      (first_place (entries g s) + length (events_bytes (every.before accepted k)))
  walk k h = ap walk_of (cut_is k) ∙ every.walk accepted k h

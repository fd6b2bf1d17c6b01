-- What the judge's answer says of a game, and what the writer answers.
-- Assumes nothing.
use mathlib.Core.Path.{◌≡◌, refl, sym, ap, ◌∙◌}
use mathlib.Core.Bool.{Bool, true, false, cond}
use mathlib.Core.List.{List, [], ◌∷◌, ◌++◌}
use Prim.Native.Nat.{ℕ, zero, suc, ◌+◌, ◌*◌, ◌≤◌, ◌<◌}
use native.Mathlib.Nat.{suc-mul, zero-mul}
use native.Mathlib.Omega.{arith}
use Rattle.std.specs.Prelude.{Ok, Err}
use borrow.Author.Tests.{lt-ltb, le-ltb}
use lib.Dec.{ltb, lit<}
use lib.ListN.{length, length-append}
use Rattle.wire.specs.Wire.{Wrote}
use Rattle.wire.proofs.Laws.{length_be}
use Rattle.format.specs.File.{table_bytes, events_bytes, file_of}
use Rattle.format.specs.Mark.{yes}
use Rattle.format.specs.Refusal.{refuse, lowest}
use Rattle.format.specs.Refused.{number_of}
use Rattle.format.specs.declared.refusal.Refusal.{Refusal}
use Rattle.format.specs.declared.refusal.Refusal.TheVariants.{ShortOutput}
use Rattle.format.proofs.Numbers.{not_zero}
use Rattle.format.proofs.Refusals.{Numbered, here, skip, none, passed, lowest_after, lowest_first}
use Rattle.game.specs.Frames.{Slot}
use Rattle.frames.specs.Judge.{refusals}
use Rattle.players.specs.Presence.{present_at, players_present}
use Rattle.frames.specs.Inner.{Accepted}
use Rattle.frames.proofs.Accepted.{numbered, accepted, few_bytes}
use Rattle.players.proofs.PresenceLaws.{count_most}
use Rattle.start.specs.Refusal.{block_wrong, bad_start}
use Rattle.codes.specs.Blocks.{codes_wrong}
use Rattle.ending.specs.Tail.{tail_of}
use Rattle.ending.proofs.Lengths.{length_tail}
use Rattle.game.specs.declared.Game.{Game}
use Rattle.game.specs.Stores.{Stores}
use Rattle.ser.specs.Write.{given_bytes, entries, events, file, judged, refusal, write_numbers, WrittenNumbers, left, WriterOutcome}
use Rattle.ser.proofs.Laws.{stopped, went_on}

-- ---- a game that is not refused

pub record Passed (g : Game) (s : Stores) : Type 0 where
  pub frames : Accepted g.frames s.lent
  pub block : block_wrong g.frames.version (length s.template) ≡ false
  pub start : bad_start g.frames.version g.start ≡ false
  pub coded : codes_wrong g.frames.version (yes g.codes_given) s.codes g.actual_size ≡ false
  pub codes_few : given_bytes g.codes_given s.codes ≤ 16777216
  pub metadata_few : given_bytes g.metadata_given s.metadata ≤ 65535

pub passes : (g : Game) (s : Stores) → lowest (judged g s) ≡ 0 → Passed g s
unfolding judged
passes g s e =
    let a = given_bytes g.codes_given s.codes in
    let b = given_bytes g.metadata_given s.metadata in
    let first : lowest (refusals g.frames s.lent a b) ≡ 0 = lowest_first _ _ e in
    let (eight, r1) = passed _ _ _ (sym (lowest_after (refusals g.frames s.lent a b) _ (numbered g.frames s.lent a b) first) ∙ e) in
    let (nine, r2) = passed _ _ _ r1 in
    let (ten, r3) = passed _ _ _ r2 in
    record {
      frames = accepted g.frames s.lent a b first;
      block = eight;
      start = nine;
      coded = ten;
      codes_few = (few_bytes g.frames s.lent a b first).0;
      metadata_few = (few_bytes g.frames s.lent a b first).1;
    }

-- a game that `write` does not refuse, whatever the output
pub not_refused : (g : Game) (s : Stores) (room : ℕ) → refusal g s room ≡ 0 → Passed g s
unfolding refusal
not_refused g s room e = passes g s (lowest_first (judged g s) _ e)

-- no more players than slots in each frame
pub players_most : (bits : List ℕ) (ss : List Slot) (n : ℕ) → players_present bits ss n ≤ length ss * n
unfolding players_present
players_most bits [] n = omega (arith, zero-mul n)
players_most bits (s ∷ ss) n = omega (arith, suc-mul (length ss) n, count_most (present_at bits s) 0 n, players_most bits ss n)

-- ---- the file's size
pub file_size : (g : Game) (s : Stores) (raw t : ℕ) → length (table_bytes (entries g s) ++ events_bytes (events g s)) ≡ raw
    → t ≡ cond (yes g.metadata_given) (13 + given_bytes g.metadata_given s.metadata) 1 → length (file g s) ≡ 15 + (raw + t)
unfolding file file_of
file_size g s raw t e q =
    let tail = tail_of (yes g.metadata_given) s.metadata in
    let size : length tail ≡ t = length_tail (yes g.metadata_given) s.metadata ∙ same (yes g.metadata_given) (length s.metadata) ∙ sym q in
    let both = length-append (table_bytes (entries g s)) (events_bytes (events g s)) in
    simp (length-append, length_be) (omega arith)
  where
    same : (b : Bool) (n : ℕ) → cond b (13 + n) 1 ≡ cond b (13 + cond b n 0) 1
    same true n = refl
    same false n = refl

-- ---- the answers

refused_as_lem : (k m : ℕ) (out f : List ℕ) → (k ≡ 0 → ⊥) → (◌≡◌ {A = WrittenNumbers} (record { kind = 1; number = k; len = 0 }) (write_numbers k m)) × (out ≡ left k out f)
refused_as_lem zero m out f h = absurd (h refl)
refused_as_lem (suc k) m out f h = (refl, refl)

pub numbered_eleven : (g : Game) (s : Stores) → Numbered (judged g s)
unfolding Numbered judged refusals
numbered_eleven g s = (lit< tt, (lit< tt, (lit< tt, (lit< tt, (lit< tt, (lit< tt, (lit< tt, (lit< tt, (lit< tt, (lit< tt, (lit< tt, tt)))))))))))

module _ {g : Game} {s : Stores} {out : List ℕ} where
  outcome_refused : (r : Refusal) → number_of r ≡ refusal g s (length out) → WriterOutcome g s out (Err r) out
  outcome_refused r e =
      let (a, b) = refused_as_lem (number_of r) (length (file g s)) out (file g s) (not_zero r) in
      record {
        answer_is = a ∙ ap (λ (i : ℕ). write_numbers i (length (file g s))) e;
        out_is = b ∙ ap (λ (i : ℕ). left i out (file g s)) e;
      }

  pub judged_refused : (r : Refusal) → number_of r ≡ lowest (judged g s) → WriterOutcome g s out (Err r) out
  unfolding refusal
  judged_refused r e = outcome_refused r (stopped _ _ e (not_zero r))

  pub short_refused : (total : ℕ) → 0 ≡ lowest (judged g s) → length (file g s) ≡ total → length out < total → WriterOutcome g s out (Err ShortOutput) out
  unfolding refusal
  short_refused total e q h =
      outcome_refused ShortOutput (went_on _ _ 12 e refl (numbered_eleven g s) (here 12 _ _ (lt-ltb (length out) (length (file g s)) (omega arith))))

  pub written : {after : List ℕ} (total : ℕ) {next : ℕ} → 0 ≡ lowest (judged g s) → length (file g s) ≡ total → total ≤ length out
      → Wrote out after 0 next (file g s) → WriterOutcome g s out (Ok total) after
  unfolding refusal
  written total e q h w =
      let zero_is : 0 ≡ lowest (judged g s ++ (refuse 12 (ltb (length out) (length (file g s))) ∷ [])) =
      went_on _ _ 0 e refl (numbered_eleven g s) (skip 12 _ _ _ (le-ltb (length out) (length (file g s)) (omega arith)) none) in
      record {
        answer_is = ap (write_numbers 0) (sym q) ∙ ap (λ (i : ℕ). write_numbers i (length (file g s))) zero_is;
        out_is = w.after_is ∙ ap (λ (i : ℕ). left i out (file g s)) zero_is;
      }

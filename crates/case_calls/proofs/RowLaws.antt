-- The rows: what the public calls answer, as the numbers of the table.
-- Assumes nothing.
use mathlib.Core.Path.{◌≡◌, refl, sym, ap, subst, ◌∙◌}
use mathlib.Core.Bool.{Bool, cond}
use mathlib.Core.List.{List, [], ◌∷◌, ◌++◌, append-nil}
use Prim.Native.Nat.{ℕ, zero, suc, ◌+◌, ◌≤◌}
use native.Mathlib.Omega.{arith}
use borrow.Author.Tests.{ltb-false}
use lib.Dec.{ltb, eqb-suc-zero}
use lib.ListN.{length, replicate, get_or, take, drop, length-drop, drop_of_length-le}
use lib.Seq.{take-append-le, drop-append-le}
use Rattle.wire.specs.Wire.{number, part, splice, keep, tabulate}
use Rattle.wire.proofs.Laws.{splice_is}
use Rattle.format.specs.Refusal.{refuse, lowest}
use Rattle.format.proofs.Refusals.{passed, lowest_first, lowest_after}
use Rattle.head.specs.Table.{declared}
use Rattle.de.specs.Walk.{walk_of}
use Rattle.de.specs.Numbers.{walk_numbers}
use Rattle.de.specs.declared.Walked.{Walked}
use Rattle.de.specs.declared.Walked.TheVariants as walked
use Rattle.game.specs.declared.Game.{Game}
use Rattle.std.specs.Prelude.{Ok, Err}
use Rattle.format.specs.Refused.{Answer, number_of}
use Rattle.format.specs.declared.refusal.Refusal.{Refusal}
use Rattle.game.specs.Stores.{Stores}
use Rattle.ser.specs.Write.{judged, refusal, file, WrittenNumbers, write_numbers, written_numbers, left, WriterOutcome}
use Rattle.rollback.specs.Mask.{occurs, mask_of, needed, all_in_range, answer_of, MaskNumbers, mask_numbers, mask_after, RollbackOutcome}
use Rattle.rollback.specs.declared.frame.Rollbacks.{Rollbacks}
use Rattle.rollback.specs.declared.frame.Rollbacks.TheVariants.{ExceptFirst, ExceptLast}
use Rattle.format.specs.FrameId.{place_of}
use Rattle.ser.proofs.Outcomes.{not_refused, numbered_eleven}
use Rattle.std.specs.Prelude.{Result}
use Rattle.case_table.specs.Table.{numbers, writes, listed, masks, four_ids}
use Rattle.case_calls.specs.Rows.{WriteRow}
use Rattle.case_calls.specs.declared.row.Row.{Row}
use Rattle.case_table.proofs.Computed.{total_of_lem}

-- ---- walks

pub done_row : (f : List ℕ) (w : Walked) (events stray place flag : ℕ) (whole : Bool) → walk_numbers w ≡ walk_numbers (walk_of f) → w ≡ walked.Done events stray whole place → flag ≡ cond whole 1 0
    → 0 ∷ 0 ∷ events ∷ stray ∷ flag ∷ place ∷ [] ≡ listed (walk_numbers (walk_of f))
done_row f w events stray place flag whole e d h =
    ap (λ (n : ℕ). 0 ∷ 0 ∷ events ∷ stray ∷ n ∷ place ∷ []) h ∙ ap (λ (x : Walked). listed (walk_numbers x)) (sym d) ∙ ap listed e

pub refused_row : (f : List ℕ) (w : Walked) (number offset : ℕ) → walk_numbers w ≡ walk_numbers (walk_of f) → w ≡ walked.Refused number offset
    → number ∷ offset ∷ 0 ∷ 0 ∷ 0 ∷ 0 ∷ [] ≡ listed (walk_numbers (walk_of f))
refused_row f w number offset e d = ap (λ (x : Walked). listed (walk_numbers x)) (sym d) ∙ ap listed e

-- ---- files

is_file : (k m n : ℕ) → written_numbers (Ok n) ≡ write_numbers k m → (k ≡ 0) × (n ≡ m)
is_file zero m n e = (refl, ap (λ (w : WrittenNumbers). w.len) e)
is_file (suc k) m n e = let z : ◌≡◌ {A = ℕ} 0 1 = ap (λ (w : WrittenNumbers). w.kind) e in absurd (omega arith)

abbrev of_refusal : ℕ → WrittenNumbers
of_refusal k = record { kind = 1; number = k; len = 0 }

is_refused : (k m n : ℕ) → of_refusal n ≡ write_numbers k m → (n ≡ k) × (k ≡ 0 → ⊥)
is_refused zero m n e = let z : ◌≡◌ {A = ℕ} 1 0 = ap (λ (w : WrittenNumbers). w.kind) e in absurd (omega arith)
is_refused (suc k) m n e = (ap (λ (w : WrittenNumbers). w.number) e, λ z. omega arith)

-- a file that is not refused has room
fits : (g : Game) (s : Stores) (room : ℕ) → refusal g s room ≡ 0 → length (file g s) ≤ room
unfolding refusal
fits g s room e =
    let last = refuse 12 (ltb room (length (file g s))) ∷ [] in
    let first = lowest_first (judged g s) last e in
    let rest : lowest last ≡ 0 = sym (lowest_after (judged g s) last (numbered_eleven g s) first) ∙ e in
    ltb-false room (length (file g s)) (passed 11 _ _ rest).0

-- its first 15 bytes are there, and the length field is read where it was written
starts : (g : Game) (s : Stores) (room : ℕ) → refusal g s room ≡ 0 → 15 ≤ length (file g s)
starts g s room e = omega (arith, total_of_lem (not_refused g s room e))

declared_splice : (out f : List ℕ) → 15 ≤ length f → length f ≤ length out → declared (splice out 0 f) ≡ declared f
unfolding part
declared_splice out f h l =
    let rest = drop (0 + length f) out in
    ap declared (splice_is out 0 f (omega arith))
    ∙ ap number (ap (λ (x : List ℕ). take 4 x) (drop-append-le 11 f rest (omega arith)) ∙ take-append-le 4 (drop 11 f) rest (omega (arith, length-drop 11 f)))

numbers_file : (k raw total field n : ℕ) → k ≡ 0 → field ≡ raw → n ≡ total → 0 ∷ field ∷ n ∷ [] ≡ numbers k raw total
unfolding keep
numbers_file k raw total field n z f m = rw (z, f, m)

numbers_refused : (k raw total n : ℕ) → n ≡ k → (k ≡ 0 → ⊥) → n ∷ [] ≡ numbers k raw total
unfolding keep
numbers_refused zero raw total n e h = absurd (h refl)
numbers_refused (suc k) raw total n e h = rw (e, eqb-suc-zero k)

module _ {g : Game} {s : Stores} {out out' : List ℕ} where
  known : (w : Answer ℕ) (n : ℕ) → WriterOutcome g s out w out' → w ≡ Ok n → (refusal g s (length out) ≡ 0) × (n ≡ length (file g s))
  known w n o e = is_file (refusal g s (length out)) (length (file g s)) n (ap written_numbers (sym e) ∙ o.answer_is)

  out_as : (w : Answer ℕ) (n : ℕ) → WriterOutcome g s out w out' → w ≡ Ok n → out' ≡ splice out 0 (file g s)
  out_as w n o e = o.out_is ∙ ap (λ (k : ℕ). left k out (file g s)) (known w n o e).0

  pub head_there : (w : Answer ℕ) (n : ℕ) → WriterOutcome g s out w out' → w ≡ Ok n → length out' ≡ length out → 15 ≤ length out'
  head_there w n o e l =
      let (z, m) = known w n o e in
      omega (arith, starts g s (length out) z, fits g s (length out) z)

  pub file_row : (w : Answer ℕ) (n field : ℕ) → WriterOutcome g s out w out' → w ≡ Ok n → field ≡ declared out'
      → WriteRow g s out (record { len = 3; numbers = 0 ∷ field ∷ n ∷ 0 ∷ 0 ∷ 0 ∷ 0 ∷ 0 ∷ [] }) out'
  file_row w n field o e h =
      let (z, m) = known w n o e in
      let f = h ∙ ap declared (out_as w n o e) ∙ declared_splice out (file g s) (starts g s (length out) z) (fits g s (length out) z) in
      record { numbers_are = numbers_file _ _ _ field n z f m; out_is = o.out_is }

  pub refusal_row : (w : Answer ℕ) (r : Refusal) (k : ℕ) → WriterOutcome g s out w out' → w ≡ Err r → k ≡ number_of r
      → WriteRow g s out (record { len = 1; numbers = k ∷ 0 ∷ 0 ∷ 0 ∷ 0 ∷ 0 ∷ 0 ∷ 0 ∷ [] }) out'
  refusal_row w r k o e h =
      let (m, z) = is_refused (refusal g s (length out)) (length (file g s)) k (ap of_refusal h ∙ ap written_numbers (sym e) ∙ o.answer_is) in
      record { numbers_are = numbers_refused _ _ _ k m z; out_is = o.out_is }

-- of an equal game
pub same_game : {g h : Game} {s : Stores} {out out' : List ℕ} {r : Row} → g ≡ h → WriteRow g s out r out' → WriteRow h s out r out'
same_game {s = s} {out = out} {out' = out'} {r = r} e w = subst (λ (x : Game). WriteRow x s out r out') e w

-- an output as long as the file holds the file
pub whole_file : {g : Game} {s : Stores} {out out' : List ℕ} {r : Row} (raw : ℕ) → WriteRow g s out r out' → writes g s (length out) ≡ 0 ∷ raw ∷ length out ∷ [] → out' ≡ file g s
unfolding keep
whole_file {g} {s} {out} raw w e =
    let z : refusal g s (length out) ≡ 0 = ap (λ (l : List ℕ). get_or l 0 0) e in
    let m : length (file g s) ≡ length out = ap (λ (l : List ℕ). get_or l 2 0) (rw z at e) in
    w.out_is
    ∙ ap (λ (k : ℕ). left k out (file g s)) z
    ∙ splice_is out 0 (file g s) (omega arith)
    ∙ ap (λ (l : List ℕ). file g s ++ l) (drop_of_length-le out {i = 0 + length (file g s)} (omega arith))
    ∙ append-nil (file g s)

-- ---- masks

abbrev five : ℕ → List ℕ → List ℕ
five k m = k ∷ get_or m 0 0 ∷ get_or m 1 0 ∷ get_or m 2 0 ∷ get_or m 3 0 ∷ []

-- a mask of four bytes, byte by byte
four_bytes : (kept : Rollbacks) → five (answer_of four_ids 4 3).number (mask_after (answer_of four_ids 4 3) kept four_ids (replicate 4 0)) ≡ masks kept four_ids 4 3
unfolding answer_of lowest all_in_range needed place_of mask_of occurs tabulate
four_bytes ExceptFirst = refl
four_bytes ExceptLast = refl

pub mask_row : (kept : Rollbacks) {m : Result ℕ Refusal} {mask scratch : List ℕ} (k a b c d : ℕ) → RollbackOutcome four_ids kept (replicate 4 0) (replicate 3 0) m mask scratch
    → k ≡ (mask_numbers m).number → a ≡ get_or mask 0 0 → b ≡ get_or mask 1 0 → c ≡ get_or mask 2 0 → d ≡ get_or mask 3 0 → k ∷ a ∷ b ∷ c ∷ d ∷ [] ≡ masks kept four_ids 4 3
mask_row kept {m} {mask} k a b c d o ek ea eb ec ed =
    let bytes : k ∷ a ∷ b ∷ c ∷ d ∷ [] ≡ five (mask_numbers m).number mask = rw (ek, ea, eb, ec, ed) in
    bytes
    ∙ ap (λ (l : List ℕ). five (mask_numbers m).number l) o.mask_is
    ∙ ap (λ (x : MaskNumbers). five x.number (mask_after x kept four_ids (replicate 4 0))) o.answer_is
    ∙ four_bytes kept

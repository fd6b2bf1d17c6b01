-- A head is read from a copy of the first 271 bytes as from the whole file.
-- Assumes nothing.
use Prim.Native.Nat.{ℕ, zero, suc, ◌+◌, ◌-◌, ◌*◌, ◌/◌, ◌%◌, ◌≤◌, ◌<◌}
use mathlib.Core.Path.{◌≡◌, refl, sym, ap, subst, ◌∙◌}
use mathlib.Core.Bool.{Bool, true, false, cond, not, ◌&&◌, ◌||◌}
use mathlib.Core.List.{List, [], ◌∷◌, ◌++◌, append-nil}
use native.Mathlib.Omega.{arith}
use borrow.Author.Tests.{le-ltb, lt-ltb}
use lib.Dec.{eqb, ltb}
use lib.ListN.{length, get_or, take, drop, length-take, drop_of_length-le}
use lib.Seq.{get_or-take}
use Rattle.wire.specs.Wire.{be, number, part, splice, Wrote}
use Rattle.wire.proofs.Laws.{splice_is, length_splice}
use Rattle.format.specs.Event.{signature}
use Rattle.format.specs.Refusal.{lowest}
use Rattle.format.specs.File.{Entry}
use Rattle.head.specs.Table.{starts_with, stop_of, entries_in, table_of, first_place, code_twice, table_missing, unsigned, untabled, head_refusal}
use Rattle.head.specs.Inner.{HeadOf, Indexed}
use Rattle.head.specs.declared.table.Head.{Head}
use Rattle.head.proofs.Heads.{table_there, too_short_lem, signed_is}
use Rattle.de.specs.Cut.{zeroed}
use Rattle.read_judge.specs.Inner.{Bytes}
use Rattle.repair_kept.proofs.Same.{byte_same}
use Rattle.repair_kept.proofs.Field.{starts_take, zero_tail, zero_table, zero_unsigned, zero_stop}
use Rattle.repair_head.specs.Inner.{TopOf}
use Rattle.repair_head.specs.declared.Top.{Top}

-- ---- the copy

pub copied : (room room1 room2 file : List ℕ) (a b : ℕ) → length room ≡ length file → Wrote room room1 0 a file → Wrote room1 room2 11 b (be 4 0) → room2 ≡ zeroed file
unfolding zeroed be
copied room room1 room2 file a b e x y =
    let all : splice room 0 file ≡ file =
    splice_is room 0 file (omega arith) ∙ ap (λ (l : List ℕ). file ++ l) (drop_of_length-le room {i = 0 + length file} (omega arith)) ∙ append-nil file in
    y.after_is ∙ ap (λ (l : List ℕ). splice l 11 (0 ∷ 0 ∷ 0 ∷ 0 ∷ [])) (x.after_is ∙ all)

-- ---- a short file

zeroed_length : (f : List ℕ) → length (zeroed f) ≡ length f
unfolding zeroed
zeroed_length f = length_splice f 11 (0 ∷ 0 ∷ 0 ∷ 0 ∷ [])

abbrev top_by : Head → Top
top_by h = record { refusal = h.refusal; first = h.first }

pub top_short : (f spans : List ℕ) (h : Head) → HeadOf h spans (zeroed f) → TopOf (top_by h) spans f
top_short f spans h o = record {
  refusal_is = o.refusal_is;
  first_is = λ e. (o.opened e 0 (omega arith)).first_is;
  index = λ e. (o.opened e 0 (omega arith)).index;
}

pub top_none : (f spans : List ℕ) → length f < 15 → TopOf (record { refusal = 14; first = 0 }) spans f
unfolding head_refusal lowest
top_none f spans l =
    let e : head_refusal (zeroed f) ≡ 14 = refused in
    record { refusal_is = sym e; first_is = λ z. absurd (omega arith); index = λ z. absurd (omega arith) }
  where
    refused : ◌≡◌ {A = ℕ} (cond (unsigned (zeroed f)) 14 (cond (untabled (zeroed f)) 15 0)) 14
    refused = rw (too_short_lem (zeroed f) (omega (arith, zeroed_length f)))

-- ---- the first 271 bytes of a longer one

pub take-take : (m n : ℕ) (l : List ℕ) → m ≤ n → take m (take n l) ≡ take m l
take-take zero n l h = refl
take-take (suc m) zero l h = absurd (omega arith)
take-take (suc m) (suc n) [] h = refl
take-take (suc m) (suc n) (x ∷ l) h = ap (λ (k : List ℕ). x ∷ k) (take-take m n l (omega arith))

pub drop_take : (m n : ℕ) (l : List ℕ) → drop m (take (m + n) l) ≡ take n (drop m l)
drop_take zero n l = let e : 0 + n ≡ n = omega arith in ap (λ (k : ℕ). take k l) e
drop_take (suc m) n l = let e : suc m + n ≡ suc (m + n) = omega arith in ap (λ (k : ℕ). drop (suc m) (take k l)) e ∙ go l (λ k. drop_take m n k)
  where
    nothing : (n : ℕ) → ◌≡◌ {A = List ℕ} [] (take n [])
    nothing zero = refl
    nothing (suc n) = refl

    go : (l : List ℕ) → ((l : List ℕ) → drop m (take (m + n) l) ≡ take n (drop m l)) → drop (suc m) (take (suc (m + n)) l) ≡ take n (drop (suc m) l)
    go [] more = nothing n
    go (x ∷ l) more = more l

pub entries_take : (k m : ℕ) (bs : List ℕ) → 3 * k ≤ m → entries_in k (take m bs) ≡ entries_in k bs
unfolding entries_in part
entries_take zero m bs h = refl
entries_take (suc k) zero bs h = absurd (omega arith)
entries_take (suc k) (suc zero) bs h = absurd (omega arith)
entries_take (suc k) (suc (suc zero)) bs h = absurd (omega arith)
entries_take (suc k) (suc (suc (suc m))) [] h = refl
entries_take (suc k) (suc (suc (suc m))) (a ∷ []) h = refl
entries_take (suc k) (suc (suc (suc m))) (a ∷ b ∷ []) h = refl
entries_take (suc k) (suc (suc (suc m))) (a ∷ b ∷ c ∷ bs) h =
    ap (λ (l : List Entry). record { code = a; size = number (b ∷ c ∷ []) } ∷ l) (entries_take k m bs (omega arith))

module _ (f : List ℕ) (long : 271 ≤ length f) (bytes : Bytes f) where
  abbrev some_of : List ℕ
  some_of = take 271 f

  cut_length : length some_of ≡ 271
  cut_length = length-take 271 f ∙ omega arith

  byte_there : (i : ℕ) → 15 ≤ i → i < 271 → get_or (zeroed some_of) i 0 ≡ get_or (zeroed f) i 0
  byte_there i h l =
      sym (byte_same some_of (zeroed some_of) (zero_tail some_of (omega (arith, cut_length))) i h) ∙ get_or-take 271 f i 0 l ∙ byte_same f (zeroed f) (zero_tail f (omega arith)) i h

  same_start : starts_with signature some_of ≡ starts_with signature f
  same_start = starts_take signature some_of ∙ ap (starts_with signature) (take-take 11 271 f (omega arith)) ∙ sym (starts_take signature f)

  same_signed : unsigned (zeroed some_of) ≡ unsigned (zeroed f)
  same_signed =
      zero_unsigned some_of (omega (arith, cut_length)) ∙ both_signed ∙ sym (zero_unsigned f (omega arith))
    where
      both_signed : unsigned some_of ≡ unsigned f
      both_signed = signed_is some_of (omega (arith, cut_length)) ∙ ap not same_start ∙ sym (signed_is f (omega arith))

  stop_cut : stop_of (zeroed some_of) ≡ 271
  stop_cut = zero_stop some_of (omega (arith, cut_length)) ∙ cut_length

  stop_all : stop_of (zeroed f) ≡ length f
  stop_all = zero_stop f (omega arith)

  size_byte : get_or (zeroed f) 16 0 < 256
  size_byte = subst (λ (n : ℕ). n < 256) (byte_same f (zeroed f) (zero_tail f (omega arith)) 16 (omega arith)) (bytes 16)

  same_missing : table_missing (zeroed some_of) ≡ table_missing (zeroed f)
  unfolding table_missing
  same_missing =
      let b = byte_there 15 (omega arith) (omega arith) in
      let c = byte_there 16 (omega arith) (omega arith) in
      let x : ltb (stop_of (zeroed some_of)) 17 ≡ ltb (stop_of (zeroed f)) 17 = le-ltb (stop_of (zeroed some_of)) 17 (omega (arith, stop_cut)) ∙ sym (le-ltb (stop_of (zeroed f)) 17 (omega (arith, stop_all))) in
      let y : ltb (stop_of (zeroed some_of)) (16 + get_or (zeroed some_of) 16 0) ≡ ltb (stop_of (zeroed f)) (16 + get_or (zeroed f) 16 0) =
      le-ltb (stop_of (zeroed some_of)) (16 + get_or (zeroed some_of) 16 0) (omega (arith, stop_cut, c, size_byte)) ∙ sym (le-ltb (stop_of (zeroed f)) (16 + get_or (zeroed f) 16 0) (omega (arith, stop_all, size_byte))) in
      λ i. x i || not (eqb (b i) 0x35) || not (eqb (c i % 3) 1) || y i

  same_entries : table_missing (zeroed f) ≡ false → table_of (zeroed some_of) ≡ table_of (zeroed f)
  unfolding table_of
  same_entries there =
      let size = get_or f 16 0 in
      let s : get_or (zeroed f) 16 0 ≡ size = sym (byte_same f (zeroed f) (zero_tail f (omega arith)) 16 (omega arith)) in
      let t = (table_there (zeroed f) there).1 in
      let third : size % 3 ≡ 1 = ap (λ (n : ℕ). n % 3) (sym s) ∙ t in
      let low = bytes 16 in
      zero_table some_of (omega (arith, cut_length))
      ∙ (ap (λ (n : ℕ). entries_in (n / 3) (drop 17 some_of)) (get_or-take 271 f 16 0 (omega arith))
      ∙ ap (entries_in (size / 3)) (drop_take 17 254 f)
      ∙ entries_take (size / 3) 254 (drop 17 f) (omega arith))
      ∙ sym (zero_table f (omega arith))

  pub same_refusal : head_refusal (zeroed some_of) ≡ head_refusal (zeroed f)
  unfolding head_refusal lowest untabled
  same_refusal = go (table_missing (zeroed f)) refl
    where
      go : (b : Bool) → table_missing (zeroed f) ≡ b
          → ◌≡◌ {A = ℕ} (cond (unsigned (zeroed some_of)) 14 (cond (table_missing (zeroed some_of) || code_twice (table_of (zeroed some_of))) 15 0))
          (cond (unsigned (zeroed f)) 14 (cond (table_missing (zeroed f) || code_twice (table_of (zeroed f))) 15 0))
      go true e = rw (same_signed, same_missing, e)
      go false e = rw (same_signed, same_missing, same_entries e)

  tables_there : head_refusal (zeroed f) ≡ 0 → table_missing (zeroed f) ≡ false
  unfolding head_refusal lowest untabled
  tables_there e = go (unsigned (zeroed f)) (table_missing (zeroed f)) refl e
    where
      go : (a b : Bool) → table_missing (zeroed f) ≡ b → ◌≡◌ {A = ℕ} (cond a 14 (cond (b || code_twice (table_of (zeroed f))) 15 0)) 0 → table_missing (zeroed f) ≡ false
      go true b x e = absurd (omega arith)
      go false true x e = absurd (omega arith)
      go false false x e = x

  pub top_long : (spans : List ℕ) (h : Head) → HeadOf h spans (zeroed some_of) → TopOf (top_by h) spans f
  top_long spans h o = record {
    refusal_is = o.refusal_is ∙ same_refusal;
    first_is = λ e. (o.opened (same_refusal ∙ e) 0 (omega arith)).first_is ∙ ap first_place (same_entries (tables_there e));
    index = λ e. subst (Indexed spans) (same_entries (tables_there e)) (o.opened (same_refusal ∙ e) 0 (omega arith)).index;
  }

-- A head as it is written: how it is read, and how it is refused where it is cut.
-- Assumes nothing.
use Prim.Native.Nat.{ℕ, zero, suc, ◌+◌, ◌*◌, ◌-◌, ◌/◌, ◌%◌, ◌^◌, ◌≤◌, ◌<◌, min}
use mathlib.Core.Path.{◌≡◌, refl, sym, ap, ◌∙◌}
use mathlib.Core.List.{List, [], ◌∷◌, ◌++◌, append_assoc}
use mathlib.Core.Bool.{true, false}
use native.Mathlib.Decide.{ℕ_discrete}
use native.Mathlib.Omega.{arith}
use borrow.Author.Tests.{le-ltb, eq-eqb, ne_eqb}
use lib.Dec.{leb}
use lib.ListN.{length, get_or, take, length-append, length-take}
use lib.Seq.{take-append-add}
use Rattle.wire.specs.Wire.{be, part}
use Rattle.wire.proofs.Laws.{length_be, number_be}
use Rattle.format.specs.Event.{signature}
use Rattle.format.specs.File.{Entry, entries_bytes, table_bytes, codes, sizes, index_of, Fresh}
use Rattle.format.specs.Refusal.{refuse, lowest}
use Rattle.format.proofs.Files.{length_table}
use Rattle.format.proofs.Refusals.{skip, here}
use Rattle.head.specs.Table.{starts_with, declared, stop_of, all_present, entries_in, table_of, first_place, span_of, code_twice, table_missing, unsigned, untabled, head_refusal}
use Rattle.head.specs.Step.{step_in, step_of}
use Rattle.head.proofs.Filled.{stop_filled, present_filled, stop_unfilled, present_unfilled, stop_within}
use Rattle.head.proofs.Heads.{span_other, once_more, too_short_lem, table_absent, table_cut, none_there, signed_is}

-- ---- codes in a table

module _ (c : ℕ) where
  -- a code that stands in a list stands there still when more come after it
  index_append : (seen l : List ℕ) → index_of c seen < length seen → index_of c (seen ++ l) < length (seen ++ l)
  unfolding index_of
  index_append [] l h = absurd (omega arith)
  index_append (y ∷ seen) l h =
      elim (ℕ_discrete y c) [
        | yes e ↦ rw (eq-eqb y c e) (omega arith)
        | no n ↦ let j = rw (ne_eqb y c n) at h in let i = index_append seen l (omega arith) in rw (ne_eqb y c n) (omega arith)
      ]

  -- and one that comes last stands in it
  index_last : (seen : List ℕ) → index_of c (seen ++ (c ∷ [])) < length (seen ++ (c ∷ []))
  unfolding index_of
  index_last [] = rw (eq-eqb c c refl) (omega arith)
  index_last (y ∷ seen) =
      elim (ℕ_discrete y c) [
        | yes e ↦ rw (eq-eqb y c e) (omega arith)
        | no n ↦ let i = index_last seen in rw (ne_eqb y c n) (omega arith)
      ]

  -- a table that is fresh after some codes lacks them
  fresh_lacks : (seen : List ℕ) (t : List Entry) → Fresh seen t → index_of c seen < length seen → span_of c t ≡ 0
  unfolding Fresh span_of
  fresh_lacks seen [] h l = refl
  fresh_lacks seen (e ∷ t) h l =
      span_other c e t (λ x. let i = rw x at h.0 in absurd (omega arith)) ∙ fresh_lacks (seen ++ (e.code ∷ [])) t h.2 (index_append seen (e.code ∷ []) l)

  -- a listed code takes its entry's size and itself
  pub listed_span : (t : List Entry) → index_of c (codes t) < length (codes t) → span_of c t ≡ suc (get_or (sizes t) (index_of c (codes t)) 0)
  unfolding index_of span_of
  listed_span [] h = absurd (omega arith)
  listed_span (e ∷ t) h =
      elim (ℕ_discrete e.code c) [
        | yes x ↦ rw (eq-eqb e.code c x) (omega arith)
        | no n ↦ let j = rw (ne_eqb e.code c n) at h in rw (ne_eqb e.code c n) (listed_span t (omega arith))
      ]

fresh_once : (seen : List ℕ) (t : List Entry) → Fresh seen t → code_twice t ≡ false
unfolding Fresh code_twice
fresh_once seen [] h = refl
fresh_once seen (e ∷ t) h =
    once_more e t (let z = fresh_lacks e.code (seen ++ (e.code ∷ [])) t h.2 (index_last e.code seen) in omega arith) (fresh_once (seen ++ (e.code ∷ [])) t h.2)

-- ---- the head, as it is written

-- entries are read as they were written
read_entries : (seen : List ℕ) (t : List Entry) (rest : List ℕ) → Fresh seen t → entries_in (length t) (entries_bytes t ++ rest) ≡ t
unfolding Fresh entries_in entries_bytes be part
read_entries seen [] rest h = refl
read_entries seen (e ∷ t) rest h = rw (number_be 2 e.size h.1, read_entries (seen ++ (e.code ∷ [])) t rest h.2)

-- a file with this table and this declared length, and with `body` after its table
abbrev pub headed : List Entry → ℕ → List ℕ → List ℕ
headed t n body = signature ++ (be 4 n ++ (table_bytes t ++ body))

-- the bytes up to the table's end
abbrev pub top : List Entry → ℕ → List ℕ
top t n = signature ++ (be 4 n ++ table_bytes t)

pub length_top : (t : List Entry) (n : ℕ) → length (top t n) ≡ first_place t
length_top t n = simp (length-append, length_be, length_table) (omega arith)

pub headed_top : (t : List Entry) (n : ℕ) (body : List ℕ) → headed t n body ≡ top t n ++ body
headed_top t n body = simp append_assoc

module _ (t : List Entry) (n : ℕ) (body : List ℕ) (small : n < 2 ^ 32) where
  abbrev file : List ℕ
  file = headed t n body

  pub length_file : length file ≡ first_place t + length body
  length_file = ap length (headed_top t n body) ∙ length-append (top t n) body ∙ rw (length_top t n)

  declared_is : declared file ≡ n
  unfolding be part
  declared_is = number_be 4 n small

  -- where the event data ends, and whether all of it is present: by a length that is filled in, and by one that is not
  module _ (some : n ≡ 0 → ⊥) where
    pub stop_is : stop_of file ≡ min (15 + n) (first_place t + length body)
    stop_is = stop_filled file (λ z. some (sym declared_is ∙ z)) ∙ rw (declared_is, length_file)

    pub present_is : all_present file ≡ leb (15 + n) (first_place t + length body)
    present_is = present_filled file (λ z. some (sym declared_is ∙ z)) ∙ rw (declared_is, length_file)

  module _ (none : n ≡ 0) where
    pub stop_all : stop_of file ≡ first_place t + length body
    stop_all = stop_unfilled file (declared_is ∙ none) ∙ length_file

    pub never_whole : all_present file ≡ false
    never_whole = present_unfilled file (declared_is ∙ none)

  signed : unsigned file ≡ false
  unfolding unsigned starts_with
  signed = rw (le-ltb (length file) 15 (omega (arith, length_file)))

  module _ (fresh : Fresh [] t) (reached : first_place t ≤ stop_of file) where
    pub entries_are : table_of file ≡ t
    unfolding table_of table_bytes be
    entries_are = let q : (3 * length t + 1) / 3 ≡ length t = omega arith in rw q (read_entries [] t body fresh)

    there : table_missing file ≡ false
    unfolding table_missing table_bytes be
    there =
        rw (le-ltb (stop_of file) 17 (omega arith), eq-eqb ((3 * length t + 1) % 3) 1 (omega arith), le-ltb (stop_of file) (16 + (3 * length t + 1)) (omega arith))

    accepted : head_refusal file ≡ 0
    unfolding head_refusal untabled lowest
    accepted = rw (signed, there, entries_are, fresh_once [] t fresh)

    pub step_is : (place : ℕ) → step_of file place ≡ step_in (first_place t) (stop_of file) (all_present file) place (get_or file place 0) (span_of (get_or file place 0) t)
    unfolding step_of
    step_is place = rw (accepted, entries_are)

-- ---- cut after k bytes

pub take_past : (h l : List ℕ) (n k : ℕ) → length h ≡ n → n ≤ k → take k (h ++ l) ≡ h ++ take (k - n) l
take_past h l n k e le =
    let q : k ≡ length h + (k - n) = omega arith in
    ap (λ (x : ℕ). take x (h ++ l)) q ∙ take-append-add h l (k - n)

-- under 15 bytes
pub cut_14 : (f : List ℕ) (k : ℕ) → k < 15 → head_refusal (take k f) ≡ 14
unfolding head_refusal
cut_14 f k h = sym (here 14 _ (refuse 15 (untabled (take k f)) ∷ []) (too_short_lem (take k f) (simp length-take (omega arith))))

-- in the table, of which j bytes are present
module _ (t : List Entry) (n : ℕ) (rest : List ℕ) where
  abbrev part_of : ℕ → List ℕ
  part_of j = signature ++ (be 4 n ++ take j (table_bytes t ++ rest))

  short_length : (j : ℕ) → length (part_of j) ≤ 15 + j
  unfolding be
  short_length j = simp length-take (omega arith)

  short_stop : (j : ℕ) → stop_of (part_of j) ≤ 15 + j
  short_stop j = omega (arith, stop_within (part_of j), short_length j)

  missing : (j : ℕ) → j < 2 + 3 * length t → table_missing (part_of j) ≡ true
  unfolding table_bytes be
  missing zero h = table_absent (part_of 0) (omega (arith, short_stop 0))
  missing (suc zero) h = table_absent (part_of 1) (omega (arith, short_stop 1))
  missing (suc (suc j)) h = table_cut (part_of (suc (suc j))) (omega (arith, short_stop (suc (suc j))))

  signed_part : (j : ℕ) → unsigned (part_of j) ≡ false
  unfolding starts_with be
  signed_part j = signed_is (part_of j) (omega arith)

  pub cut_15 : (k : ℕ) → 15 ≤ k → k < first_place t → head_refusal (take k (headed t n rest)) ≡ 15
  unfolding head_refusal be
  cut_15 k h l =
      let g = part_of (k - 15) in
      ap head_refusal (take_past (signature ++ be 4 n) (table_bytes t ++ rest) 15 k refl h)
      ∙ sym (skip 14 15 (unsigned g) (refuse 15 (untabled g) ∷ []) (signed_part (k - 15)) (here 15 (untabled g) [] (none_there g (missing (k - 15) (omega arith)))))

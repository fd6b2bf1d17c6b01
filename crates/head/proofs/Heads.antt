-- The laws of a file's head: its signature, its payload table and the table's index by code.
-- Assumes nothing.
use mathlib.Core.Path.{◌≡◌, refl, sym, ap, ap₂, ◌∙◌}
use mathlib.Core.Bool.{Bool, true, false, not, ◌||◌, ◌&&◌}
use mathlib.Core.List.{List, [], ◌∷◌}
use Prim.Native.Nat.{ℕ, zero, suc, ◌+◌, ◌*◌, ◌-◌, ◌/◌, ◌%◌, ◌≤◌, ◌<◌}
use native.Mathlib.Nat.{add-zero}
use native.Mathlib.Numerals.{add-one}
use native.Mathlib.Decide.{ℕ_discrete}
use native.Mathlib.Omega.{arith}
use borrow.Author.Tests.{lt-ltb, le-ltb, eq-eqb, ne_eqb, ltb-false, eqb-true, not-false}
use lib.Dec.{eqb, ltb}
use lib.Pointwise.{pointwise}
use lib.ListN.{length, get_or, take, drop, set, length-set, drop_of_length-le, get_or-replicate, get_or-eq_default}
use lib.Seq.{drop-cons, get_or-drop, drop-drop, get_or-set_same, get_or-set_other}
use Rattle.wire.specs.Wire.{number, part}
use Rattle.wire.proofs.Laws.{tabulate_length, tabulate_at, tabulated, stored}
use Rattle.format.specs.Event.{signature}
use Rattle.format.specs.File.{Entry}
use Rattle.format.specs.Refusal.{refuse}
use Rattle.format.proofs.Refusals.{skip, here, none}
use Rattle.format.proofs.Tests.{or_none}
use Rattle.head.specs.Table.{starts_with, stop_of, all_present, entries_in, table_of, first_place, span_of, code_twice, table_missing, unsigned, untabled, head_refusal, head_offset}
use Rattle.head.specs.Inner.{list_of, Sound, Blank, Indexed, Agree, HeadOf}
use Rattle.head.specs.declared.table.Head.{Head}
use Rattle.head.specs.declared.table.Table.{Table}

-- as slices are compared
eqb_comm : (a b : ℕ) → eqb a b ≡ eqb b a
eqb_comm a b =
    elim (ℕ_discrete a b) [
      | yes e ↦ eq-eqb a b e ∙ sym (eq-eqb b a (sym e))
      | no n ↦ ne_eqb a b n ∙ sym (ne_eqb b a (λ e. n (sym e)))
    ]

pub starts_same : (xs ys : List ℕ) → pointwise eqb xs (take (length xs) ys) ≡ starts_with xs ys
unfolding starts_with
starts_same [] ys = refl
starts_same (x ∷ xs) [] = refl
starts_same (x ∷ xs) (y ∷ ys) = ap₂ (λ (a b : Bool). a && b) (eqb_comm x y) (starts_same xs ys)

-- one byte of a signature
pub starts_step : (xs ys : List ℕ) (i : ℕ) → i < length xs → i < length ys
    → starts_with (drop i xs) (drop i ys) ≡ eqb (get_or ys i 0) (get_or xs i 0) && starts_with (drop (i + 1) xs) (drop (i + 1) ys)
unfolding starts_with
starts_step xs ys i p q = rw (add-one, drop-cons xs i 0, drop-cons ys i 0)

-- ---- the entries of a table

no_entry : Entry
no_entry = record { code = 0; size = 0 }

pub entries_length : (n : ℕ) (bytes : List ℕ) → length (entries_in n bytes) ≡ n
unfolding entries_in
entries_length zero bytes = refl
entries_length (suc n) bytes = ap suc (entries_length n (drop 3 bytes))

entry_at : (d : Entry) (f : List ℕ) (base n k : ℕ) → k < n
    → get_or (entries_in n (drop base f)) k d ≡ record { code = get_or f (base + 3 * k) 0; size = number (part f (base + 3 * k + 1) 2) }
unfolding entries_in part
entry_at d f base zero k h = absurd (omega arith)
entry_at d f base (suc n) zero h = simp (get_or-drop, drop-drop, add-zero)
entry_at d f base (suc n) (suc k) h =
    let e : base + 3 + 3 * k ≡ base + 3 * suc k = omega arith in
    rw (drop-drop 3 base f) (rw e at (entry_at d f (base + 3) n k (omega arith)))

-- the first i entries of f stand in codes and sizes
pub record Filling (f codes sizes : List ℕ) (i : ℕ) : Type 0 where
  pub many : length codes ≡ 84
  pub many' : length sizes ≡ 84
  pub codes_are : (k : ℕ) → k < i → get_or codes k 0 ≡ get_or f (17 + 3 * k) 0
  pub sizes_are : (k : ℕ) → k < i → get_or sizes k 0 ≡ number (part f (17 + 3 * k + 1) 2)

module _ {f codes sizes : List ℕ} {i : ℕ} (g : Filling f codes sizes i) where
  pub filling_more : (a s : ℕ) → i < 84 → a ≡ get_or f (17 + 3 * i) 0 → s ≡ number (part f (17 + 3 * i + 1) 2)
      → Filling f (set codes i a) (set sizes i s) (i + 1)
  filling_more a s h p q = record {
    many = length-set codes i a ∙ g.many;
    many' = length-set sizes i s ∙ g.many';
    codes_are = λ k l. stored 0 codes i a (λ j. get_or f (17 + 3 * j) 0) k (omega arith) p (λ ne. g.codes_are k (omega arith));
    sizes_are = λ k l. stored 0 sizes i s (λ j. number (part f (17 + 3 * j + 1) 2)) k (omega arith) q (λ ne. g.sizes_are k (omega arith));
  }

  pub filling_done : (n : ℕ) → n ≡ i → list_of (record { codes = codes; sizes = sizes; len = n }) ≡ entries_in n (drop 17 f)
  unfolding list_of
  filling_done n e =
      sym
      (tabulated no_entry (entries_in n (drop 17 f)) n (λ k. record { code = get_or codes k 0; size = get_or sizes k 0 }) (entries_length n (drop 17 f))
      (λ k h. entry_at no_entry f 17 n k h
      ∙ sym (ap₂ (λ (c z : ℕ). record { code = c; size = z }) (g.codes_are k (omega arith)) (g.sizes_are k (omega arith)))))

-- ---- the index by code

pub length_list : (t : Table) → length (list_of t) ≡ t.len
unfolding list_of
length_list t = tabulate_length t.len _

-- the entries from index i on: the one there, and those after it
pub list_at : (t : Table) (i : ℕ) → i < t.len
    → drop i (list_of t) ≡ record { code = get_or t.codes i 0; size = get_or t.sizes i 0 } ∷ drop (i + 1) (list_of t)
unfolding list_of
list_at t i h =
    rw (add-one, drop-cons (list_of t) i no_entry (omega (arith, length_list t)), tabulate_at no_entry t.len (λ k. record { code = get_or t.codes k 0; size = get_or t.sizes k 0 }) i h)

pub or_true : (b : Bool) → b || true ≡ true
or_true true = refl
or_true false = refl

pub twice_here : (e : Entry) (t : List Entry) → 0 < span_of e.code t → code_twice (e ∷ t) ≡ true
unfolding code_twice
twice_here e t h = rw (lt-ltb 0 (span_of e.code t) h)

pub once_more : (e : Entry) (t : List Entry) → span_of e.code t ≤ 0 → code_twice t ≡ false → code_twice (e ∷ t) ≡ false
unfolding code_twice
once_more e t h p = rw (le-ltb 0 (span_of e.code t) h) p

pub twice_drop : (i : ℕ) (t : List Entry) → code_twice (drop i t) ≡ true → code_twice t ≡ true
unfolding code_twice
twice_drop zero t h = h
twice_drop (suc i) [] h = h
twice_drop (suc i) (e ∷ t) h = rw (twice_drop i t h) (or_true (ltb 0 (span_of e.code t)))

pub span_here_lem : (e : Entry) (t : List Entry) → span_of e.code (e ∷ t) ≡ 1 + e.size
unfolding span_of
span_here_lem e t = rw (eq-eqb e.code e.code refl)

pub span_other : (c : ℕ) (e : Entry) (t : List Entry) → (e.code ≡ c → ⊥) → span_of c (e ∷ t) ≡ span_of c t
unfolding span_of
span_other c e t h = rw (ne_eqb e.code c h)

-- an entry is stored at its code
pub index_store : {spans : List ℕ} {t : List Entry} (e : Entry) (s : ℕ) → Indexed spans t → e.code < 256 → s ≡ 1 + e.size → Indexed (set spans e.code s) (e ∷ t)
index_store {spans} {t} e s g h q = record {
  many = length-set spans e.code s ∙ g.many;
  spans_are = λ c l. stored 0 spans e.code s (λ j. span_of j (e ∷ t)) c (omega (arith, g.many)) (q ∙ sym (span_here_lem e t)) (λ ne. g.spans_are c l ∙ sym (span_other c e t (λ y. ne (sym y))));
}

-- no code stands twice among the entries of t from index i on, and spans is their index
pub record Once (spans : List ℕ) (t : Table) (i : ℕ) : Type 0 where
  pub once : code_twice (drop i (list_of t)) ≡ false
  pub index : Indexed spans (drop i (list_of t))
  pub agree : (j : ℕ) → i ≤ j → j < t.len → get_or spans (get_or t.codes j 0) 0 ≡ 1 + get_or t.sizes j 0

pub once_none : {spans : List ℕ} (t : Table) → Blank spans → Once spans t t.len
unfolding code_twice span_of
once_none t b =
    let n : drop t.len (list_of t) ≡ [] = drop_of_length-le (list_of t) {i = t.len} (omega (arith, length_list t)) in
    record { once = rw n; index = rw (n, b.empty) (record { many = refl; spans_are = λ k h. get_or-replicate 256 k 0 0 h }); agree = λ j h l. absurd (omega arith) }

-- a turn of the loop that fills the index: the entry before those that stand in it
module _ (t : Table) (i c : ℕ) {spans : List ℕ} (g : Once spans t i) (is : c ≡ get_or t.codes (i - 1) 0) (small : c < 256) (more : 0 < i) (within : i ≤ t.len) where
  abbrev entry : Entry
  entry = record { code = get_or t.codes (i - 1) 0; size = get_or t.sizes (i - 1) 0 }

  split : drop (i - 1) (list_of t) ≡ entry ∷ drop i (list_of t)
  split = let e : i - 1 + 1 ≡ i = omega arith in rw e at (list_at t (i - 1) (omega arith))

  found : get_or spans c 0 ≡ span_of entry.code (drop i (list_of t))
  found = g.index.spans_are c small ∙ ap (λ (x : ℕ). span_of x (drop i (list_of t))) is

  pub index_twice : 0 < get_or spans c 0 → code_twice (list_of t) ≡ true
  index_twice h = twice_drop (i - 1) (list_of t) (rw split (twice_here entry (drop i (list_of t)) (omega (arith, found))))

  pub index_more : get_or spans c 0 ≤ 0 → (s : ℕ) → s ≡ 1 + get_or t.sizes (i - 1) 0 → Once (set spans c s) t (i - 1)
  index_more h s e = record {
    once = rw split (once_more entry (drop i (list_of t)) (omega (arith, found)) g.once);
    index = rw (split, is) (index_store entry s g.index (omega (arith, is)) e);
    agree = λ j l m. elim (ℕ_discrete j (i - 1)) [
      | yes q ↦ rw (q, ← is) (get_or-set_same spans c s 0 (omega (arith, g.index.many)) ∙ e)
      | no q ↦ let a = g.agree j (omega arith) m in get_or-set_other spans c (get_or t.codes j 0) s 0 (λ x. let b = rw x at a in omega arith) ∙ a
    ];
  }

-- ---- the head and its refusals

-- where a table stands
pub table_there : (f : List ℕ) → table_missing f ≡ false → (17 ≤ stop_of f) × (get_or f 16 0 % 3 ≡ 1) × (16 + get_or f 16 0 ≤ stop_of f)
unfolding table_missing
table_there f h =
    let d = or_none _ _ h in
    let c = or_none _ _ d.0 in
    let b = or_none _ _ c.0 in
    (ltb-false _ _ b.0, eqb-true _ _ (not-false _ c.1), ltb-false _ _ d.1)

-- where none does: its first two bytes are not there, or its last
pub table_absent : (f : List ℕ) → stop_of f < 17 → table_missing f ≡ true
unfolding table_missing
table_absent f h = rw (lt-ltb (stop_of f) 17 h)

pub table_cut : (f : List ℕ) → stop_of f < 16 + get_or f 16 0 → table_missing f ≡ true
unfolding table_missing
table_cut f h =
    rw (lt-ltb (stop_of f) (16 + get_or f 16 0) h) (or_true (ltb (stop_of f) 17 || not (eqb (get_or f 15 0) 0x35) || not (eqb (get_or f 16 0 % 3) 1)))

-- it ends where its size byte says
pub first_by_size : (f : List ℕ) → table_missing f ≡ false → first_place (table_of f) ≡ 16 + get_or f 16 0
unfolding table_of
first_by_size f h = let c = table_there f h in omega (arith, entries_length (get_or f 16 0 / 3) (drop 17 f))

pub list_is : (t : Table) (f : List ℕ) (n : ℕ) → list_of t ≡ entries_in (n / 3) (drop 17 f) → n ≡ get_or f 16 0 → list_of t ≡ table_of f
unfolding table_of
list_is t f n h e = rw e at h

pub none_there : (f : List ℕ) → table_missing f ≡ true → untabled f ≡ true
unfolding untabled
none_there f h = rw h

pub twice_there : (f : List ℕ) → code_twice (table_of f) ≡ true → untabled f ≡ true
unfolding untabled
twice_there f h = rw h (or_true (table_missing f))

pub too_short_lem : (f : List ℕ) → length f < 15 → unsigned f ≡ true
unfolding unsigned
too_short_lem f h = rw (lt-ltb (length f) 15 h)

pub signed_is : (f : List ℕ) → 15 ≤ length f → unsigned f ≡ not (starts_with signature f)
unfolding unsigned
signed_is f h = rw (le-ltb (length f) 15 h)

module _ (h : Head) (spans f : List ℕ) where
  head_refused : (n o : ℕ) → (h.refusal ≡ suc n) × (h.offset ≡ o) → o ≡ head_offset (suc n) → suc n ≡ head_refusal f → HeadOf h spans f
  head_refused n o p r s = record {
    refusal_is = p.0 ∙ s;
    offset_is = p.1 ∙ r ∙ ap head_offset s;
    opened = λ z. let e : suc n ≡ 0 = s ∙ z in absurd (omega arith);
  }

  pub head_14 : (h.refusal ≡ 14) × (h.offset ≡ 0) → unsigned f ≡ true → HeadOf h spans f
  unfolding head_refusal
  head_14 p e = head_refused 13 0 p refl (here 14 (unsigned f) (refuse 15 (untabled f) ∷ []) e)

  module _ (signed : unsigned f ≡ false) where
    pub head_15 : (h.refusal ≡ 15) × (h.offset ≡ 15) → untabled f ≡ true → HeadOf h spans f
    unfolding head_refusal
    head_15 p e = head_refused 14 15 p refl (skip 14 15 (unsigned f) (refuse 15 (untabled f) ∷ []) signed (here 15 (untabled f) [] e))

    module _ (there : table_missing f ≡ false) (once : code_twice (table_of f) ≡ false) where
      read : 0 ≡ head_refusal f
      unfolding head_refusal untabled
      read = skip 14 0 (unsigned f) (refuse 15 (untabled f) ∷ []) signed (skip 15 0 (untabled f) [] (rw (there, once)) none)

      pub head_read : (h.refusal ≡ 0) × (h.offset ≡ 0) → Sound h.table → Agree h.table.codes h.table.sizes h.table.len spans → Indexed spans (table_of f)
          → h.first ≡ first_place (table_of f) → (h.stop ≡ stop_of f) × (h.whole ≡ all_present f) × (h.stop ≤ length f) → HeadOf h spans f
      head_read p sound agree index first bounds = record {
        refusal_is = p.0 ∙ read;
        offset_is = p.1 ∙ ap head_offset read;
        opened = λ z n l. record {
          accepted = z;
          in_codes = omega (arith, sound);
          in_sizes = omega (arith, sound);
          agree = λ i m. agree i (omega arith);
          index = index;
          first_is = first;
          stop_is = bounds.0;
          whole_is = bounds.1;
          starts = omega (arith, first_by_size f there, table_there f there);
          within = bounds.2;
        };
      }

-- ---- where the events start, by the size byte alone

pub by_size : (f : List ℕ) (n : ℕ) → n ≡ get_or f 16 0 → 17 + 3 * (n / 3) ≡ first_place (table_of f)
unfolding table_of
by_size f n e = ap (λ m. 17 + 3 * (m / 3)) e ∙ ap (λ k. 17 + 3 * k) (sym (entries_length (get_or f 16 0 / 3) (drop 17 f)))

-- no size byte, no entries
pub by_none : (f : List ℕ) → length f < 17 → 17 ≡ first_place (table_of f)
by_none f short = by_size f 0 (sym (get_or-eq_default f 0 (omega arith)))

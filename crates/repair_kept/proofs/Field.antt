-- A file with another length field: what its head says then.
-- Assumes nothing.
use Prim.Native.Nat.{ℕ, zero, suc, ◌+◌, ◌-◌, ◌*◌, ◌/◌, ◌%◌, ◌^◌, ◌≤◌, ◌<◌}
use mathlib.Core.Path.{◌≡◌, refl, sym, ap, subst, ◌∙◌}
use mathlib.Core.Bool.{Bool, true, false, cond, not, ◌&&◌, ◌||◌}
use mathlib.Core.List.{List, [], ◌∷◌, ◌++◌, append_assoc}
use native.Mathlib.Decide.{dec_lt, ℕ_discrete}
use native.Mathlib.Nat.{mod-lt}
use native.Mathlib.Omega.{arith}
use borrow.Author.Tests.{le-ltb, eq-eqb, eqb-true}
use lib.Dec.{leb, eqb, ltb, lit<}
use lib.ListN.{length, get_or, set, take, drop, length-append, length-set, length-take, get_or-eq_default}
use lib.Seq.{take_at, drop_at, get_or-set_same, get_or-set_other}
use Rattle.wire.specs.Wire.{be, number, part, splice}
use Rattle.wire.proofs.Laws.{length_splice, splice_is, length_be, get_put}
use Rattle.format.specs.Event.{signature}
use Rattle.format.specs.Refusal.{refuse, lowest}
use Rattle.head.specs.Table.{starts_with, declared, stop_of, all_present, entries_in, table_of, first_place, span_of, code_twice, table_missing, unsigned, untabled, head_refusal}
use Rattle.head.proofs.Filled.{zero_data, whole_data, stop_within}
use Rattle.head.proofs.Heads.{table_there, first_by_size, too_short_lem}
use Rattle.de.specs.Cut.{zeroed}
use Rattle.grammar.specs.WellFormed.{Each}
use Rattle.read_judge.specs.Inner.{Bytes, Headed}
use Rattle.repair_kept.specs.Kept.{ending_at}
use Rattle.repair_kept.proofs.Same.{byte_same, drop_same}

-- ---- bytes stored over others

bytes_set : (xs : List ℕ) (i y : ℕ) → Bytes xs → y < 256 → Bytes (set xs i y)
bytes_set xs i y b l j = elim (ℕ_discrete j i) [
  | no n ↦ subst (λ (x : ℕ). x < 256) (sym (get_or-set_other xs i j y 0 n)) (b j)
  | yes e ↦ elim (dec_lt j (length xs)) [
    | yes k ↦ subst (λ (x : ℕ). x < 256) (sym (ap (λ (n : ℕ). get_or (set xs i y) n 0) e ∙ get_or-set_same xs i y 0 (omega arith))) l
    | no k ↦ subst (λ (x : ℕ). x < 256) (sym (get_or-eq_default (set xs i y) 0 {n = j} (omega (arith, length-set xs i y)))) (lit< tt)
  ]
]

bytes_splice : (xs : List ℕ) (at : ℕ) (ys : List ℕ) → Bytes xs → Each (λ y. y < 256) ys → Bytes (splice xs at ys)
unfolding splice Each
bytes_splice xs at [] b e = b
bytes_splice xs at (y ∷ ys) b e = bytes_splice (set xs at y) (suc at) ys (bytes_set xs at y b e.0) e.1

be_bytes : (w n : ℕ) → Each (λ y. y < 256) (be w n)
unfolding be Each
be_bytes zero n = tt
be_bytes (suc w) n = (mod-lt (n / 256 ^ w) (lit< tt), be_bytes w n)

-- ---- a field of four bytes at 11

pub starts_take : (xs ys : List ℕ) → starts_with xs ys ≡ starts_with xs (take (length xs) ys)
unfolding starts_with
starts_take [] ys = refl
starts_take (x ∷ xs) [] = refl
starts_take (x ∷ xs) (y ∷ ys) = ap (λ (b : Bool). eqb y x && b) (starts_take xs ys)

module _ (f w : List ℕ) (long : 15 ≤ length f) (four : length w ≡ 4) where
  abbrev g : List ℕ
  g = splice f 11 w

  split : g ≡ take 11 f ++ (w ++ drop 15 f)
  split = let e : 11 + length w ≡ 15 = omega arith in splice_is f 11 w (omega arith) ∙ ap (λ (n : ℕ). take 11 f ++ (w ++ drop n f)) e

  eleven : length (take 11 f) ≡ 11
  eleven = length-take 11 f ∙ omega arith

  pub same_tail : drop 15 f ≡ drop 15 g
  same_tail =
      sym (ap (drop 15) (split ∙ sym (append_assoc (take 11 f) w (drop 15 f))) ∙ drop_at (take 11 f ++ w) (drop 15 f) 15 (omega (arith, length-append (take 11 f) w, eleven)))

  same_front : take 11 g ≡ take 11 f
  same_front = ap (take 11) split ∙ take_at (take 11 f) (w ++ drop 15 f) 11 eleven

  same_signature : starts_with signature g ≡ starts_with signature f
  same_signature = starts_take signature g ∙ ap (starts_with signature) same_front ∙ sym (starts_take signature f)

  pub same_unsigned : unsigned g ≡ unsigned f
  unfolding unsigned
  same_unsigned = λ i. ltb (length_splice f 11 w i) 15 || not (same_signature i)

  pub same_table : table_of g ≡ table_of f
  unfolding table_of
  same_table = λ i. entries_in (sym (byte_same f g same_tail 16 (omega arith)) i / 3) (sym (drop_same f g same_tail 17 (omega arith)) i)

-- ---- the head's tests

record Heads (f : List ℕ) : Type 0 where
  signed : unsigned f ≡ false
  there : table_missing f ≡ false
  once : code_twice (table_of f) ≡ false

heads_are : (f : List ℕ) → head_refusal f ≡ 0 → Heads f
unfolding head_refusal lowest untabled
heads_are f e = go (unsigned f) refl (table_missing f) refl (code_twice (table_of f)) refl e
  where
    go : (a : Bool) → unsigned f ≡ a → (b : Bool) → table_missing f ≡ b → (c : Bool) → code_twice (table_of f) ≡ c → ◌≡◌ {A = ℕ} (cond a 14 (cond (b || c) 15 0)) 0 → Heads f
    go true x b y c z e = absurd (omega arith)
    go false x true y c z e = absurd (omega arith)
    go false x false y true z e = absurd (omega arith)
    go false x false y false z e = record { signed = x; there = y; once = z }

heads_so : (f : List ℕ) → Heads f → head_refusal f ≡ 0
unfolding head_refusal lowest untabled
heads_so f h = rw (h.signed, h.there, h.once)

signed_long : (f : List ℕ) → unsigned f ≡ false → 15 ≤ length f
unfolding unsigned
signed_long f e = elim (dec_lt (length f) 15) [
  | yes l ↦ absurd (let z : ◌≡◌ {A = ℕ} 0 1 = ap (λ (b : Bool). cond b 0 1) (sym (too_short_lem f l) ∙ e) in omega arith)
  | no n ↦ omega arith
]

four_tests : (a b c d : Bool) → (a || not b || not c || d) ≡ false → (a ≡ false) × (b ≡ true) × (c ≡ true) × (d ≡ false)
four_tests true b c d e = absurd (let z : ◌≡◌ {A = ℕ} 0 1 = cc in omega arith)
four_tests false false c d e = absurd (let z : ◌≡◌ {A = ℕ} 0 1 = cc in omega arith)
four_tests false true false d e = absurd (let z : ◌≡◌ {A = ℕ} 0 1 = cc in omega arith)
four_tests false true true true e = absurd (let z : ◌≡◌ {A = ℕ} 0 1 = cc in omega arith)
four_tests false true true false e = (refl, refl, refl, refl)

-- a table that is there, of a file that is the same from its table on, where its data ends behind the table
missing_not : (f g : List ℕ) → drop 15 f ≡ drop 15 g → table_missing f ≡ false → 17 ≤ stop_of g → 16 + get_or f 16 0 ≤ stop_of g → table_missing g ≡ false
unfolding table_missing
missing_not f g same h a b =
    let (p, q, r, s) = four_tests (ltb (stop_of f) 17) (eqb (get_or f 15 0) 0x35) (eqb (get_or f 16 0 % 3) 1) (ltb (stop_of f) (16 + get_or f 16 0)) h in
    let x = ap (λ (n : ℕ). eqb n 0x35) (sym (byte_same f g same 15 (omega arith))) ∙ q in
    let y = ap (λ (n : ℕ). eqb (n % 3) 1) (sym (byte_same f g same 16 (omega arith))) ∙ r in
    rw (le-ltb (stop_of g) 17 a, x, y, le-ltb (stop_of g) (16 + get_or g 16 0) (omega (arith, byte_same f g same 16 (omega arith))))

-- ---- the length zeroed, and another one

module _ (f : List ℕ) (long : 15 ≤ length f) where
  zero_is : zeroed f ≡ splice f 11 (be 4 0)
  unfolding zeroed be
  zero_is = refl

  pub zero_tail : drop 15 f ≡ drop 15 (zeroed f)
  zero_tail = same_tail f (be 4 0) long (length_be 4 0) ∙ ap (drop 15) (sym zero_is)

  pub zero_table : table_of (zeroed f) ≡ table_of f
  zero_table = ap table_of zero_is ∙ same_table f (be 4 0) long (length_be 4 0)

  pub zero_unsigned : unsigned (zeroed f) ≡ unsigned f
  zero_unsigned = ap unsigned zero_is ∙ same_unsigned f (be 4 0) long (length_be 4 0)

  pub zero_length : length (zeroed f) ≡ length f
  zero_length = ap length zero_is ∙ length_splice f 11 (be 4 0)

  zero_declared : declared (zeroed f) ≡ 0
  zero_declared = ap declared zero_is ∙ get_put f 11 4 0 (lit< tt) (omega arith)

  pub zero_stop : stop_of (zeroed f) ≡ length f
  zero_stop = (zero_data (zeroed f) zero_declared).0 ∙ zero_length

  module _ (q : ℕ) where
    pub ending_tail : drop 15 f ≡ drop 15 (ending_at f q)
    unfolding ending_at
    ending_tail = same_tail f (be 4 (q - 15)) long (length_be 4 (q - 15))

    pub ending_table : table_of (ending_at f q) ≡ table_of f
    unfolding ending_at
    ending_table = same_table f (be 4 (q - 15)) long (length_be 4 (q - 15))

    ending_unsigned : unsigned (ending_at f q) ≡ unsigned f
    unfolding ending_at
    ending_unsigned = same_unsigned f (be 4 (q - 15)) long (length_be 4 (q - 15))

    pub ending_length : length (ending_at f q) ≡ length f
    unfolding ending_at
    ending_length = length_splice f 11 (be 4 (q - 15))

    pub ending_bytes : Bytes f → Bytes (ending_at f q)
    unfolding ending_at
    ending_bytes b = bytes_splice f 11 (be 4 (q - 15)) b (be_bytes 4 (q - 15))

    module _ (low : q < 4294967311) where
      pub ending_declared : declared (ending_at f q) ≡ q - 15
      unfolding ending_at
      ending_declared = let e : 256 ^ 4 ≡ 4294967296 = refl in get_put f 11 4 (q - 15) (omega arith) (omega arith)

      ending_data : 15 < q → q ≤ length f → (stop_of (ending_at f q) ≡ 15 + declared (ending_at f q)) × (all_present (ending_at f q) ≡ true)
      ending_data a b = whole_data (ending_at f q) (λ z. omega (arith, ending_declared)) (omega (arith, ending_declared, ending_length))

      pub ending_stop : 15 < q → q ≤ length f → stop_of (ending_at f q) ≡ q
      ending_stop a b = (ending_data a b).0 ∙ omega (arith, ending_declared)

      pub ending_whole : 15 < q → q ≤ length f → all_present (ending_at f q) ≡ true
      ending_whole a b = (ending_data a b).1

-- ---- where the head is accepted whatever the length field says

pub long_enough : (f : List ℕ) → head_refusal (zeroed f) ≡ 0 → 15 ≤ length f
unfolding zeroed
long_enough f e = let l = signed_long (zeroed f) (heads_are (zeroed f) e).signed in omega (arith, length_splice f 11 (0 ∷ 0 ∷ 0 ∷ 0 ∷ []))

-- a head that is accepted with its length is accepted without
pub zeroed_accepted : (f : List ℕ) → head_refusal f ≡ 0 → head_refusal (zeroed f) ≡ 0
zeroed_accepted f e =
    let h = heads_are f e in
    let long = signed_long f h.signed in
    let t = table_there f h.there in
    let stop = zero_stop f long in
    let within = stop_within f in
    heads_so (zeroed f)
    (record {
      signed = zero_unsigned f long ∙ h.signed;
      there = missing_not f (zeroed f) (zero_tail f long) h.there (omega (arith, t.0)) (omega (arith, t.2));
      once = ap code_twice (zero_table f long) ∙ h.once;
    })

module _ (f : List ℕ) (accepted : head_refusal (zeroed f) ≡ 0) where
  abbrev long : 15 ≤ length f
  long = long_enough f accepted

  abbrev pub first : ℕ
  first = first_place (table_of (zeroed f))

  heads : Heads (zeroed f)
  heads = heads_are (zeroed f) accepted

  first_is : first ≡ 16 + get_or (zeroed f) 16 0
  first_is = first_by_size (zeroed f) heads.there

  pub first_within : (17 ≤ first) × (first ≤ length f)
  first_within = let t = table_there (zeroed f) heads.there in (omega arith, omega (arith, t.2, first_is, zero_stop f long))

  between_fields : (q : ℕ) → drop 15 (zeroed f) ≡ drop 15 (ending_at f q)
  between_fields q = sym (zero_tail f long) ∙ ending_tail f long q

  same_tables : (q : ℕ) → table_of (ending_at f q) ≡ table_of (zeroed f)
  same_tables q = ending_table f long q ∙ sym (zero_table f long)

  module _ (q : ℕ) (low : q < 4294967311) (within : q ≤ length f) where
    pub ending_accepted : first ≤ q → head_refusal (ending_at f q) ≡ 0
    ending_accepted l =
        let (a, b) = first_within in
        let stop = ending_stop f long q low (omega arith) within in
        heads_so (ending_at f q)
        (record {
          signed = ending_unsigned f long q ∙ sym (zero_unsigned f long) ∙ heads.signed;
          there = missing_not (zeroed f) (ending_at f q) (between_fields q) heads.there (omega arith) (omega (arith, first_is));
          once = ap code_twice (same_tables q) ∙ heads.once;
        })

    -- and the other way round
    pub ending_starts : head_refusal (ending_at f q) ≡ 0 → all_present (ending_at f q) ≡ true → first ≤ q
    ending_starts e whole =
        let h = heads_are (ending_at f q) e in
        let t = table_there (ending_at f q) h.there in
        let s = first_by_size (ending_at f q) h.there in
        let more = filled (declared (ending_at f q)) refl in
        let stop = ending_stop f long q low more within in
        omega (arith, t.2, ap first_place (same_tables q))
      where
        filled : (n : ℕ) → declared (ending_at f q) ≡ n → 15 < q
        filled zero z = absurd (let x = (zero_data (ending_at f q) z).1 in let y : ◌≡◌ {A = ℕ} 0 1 = ap (λ (b : Bool). cond b 1 0) (sym x ∙ whole) in omega arith)
        filled (suc n) z = omega (arith, ending_declared f long q low)

    module _ (spans : List ℕ) (many : length spans ≡ 256) (index : (c : ℕ) → c < 256 → get_or spans c 0 ≡ span_of c (table_of (zeroed f))) (bytes : Bytes f) where
      pub ending_headed : first ≤ q → Headed (ending_at f q) spans first q true
      ending_headed l =
          let (a, b) = first_within in
          record {
            accepted = ending_accepted l;
            bytes = ending_bytes f long q bytes;
            many = many;
            index = λ c k. index c k ∙ ap (span_of c) (sym (same_tables q));
            first_is = ap first_place (sym (same_tables q));
            stop_is = sym (ending_stop f long q low (omega arith) within);
            whole_is = sym (ending_whole f long q low (omega arith) within);
            starts = l;
            within = omega (arith, ending_length f long q);
          }

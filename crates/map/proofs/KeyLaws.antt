-- Keys in rows: texts that are compared byte by byte, entries that are passed over, and keys looked for before a row.
-- Assumes nothing.
use mathlib.Core.Path.{◌≡◌, refl, sym, ap, ap₂, ◌∙◌}
use mathlib.Core.Bool.{Bool, true, false, cond, ◌&&◌, ◌||◌}
use mathlib.Core.List.{List, [], ◌∷◌, ◌++◌, append_assoc, append-nil}
use Prim.Native.Nat.{ℕ, zero, suc, ◌+◌, ◌-◌, ◌*◌, ◌/◌, ◌≤◌, ◌<◌}
use native.Mathlib.Numerals.{add-one, sub-one}
use native.Mathlib.Omega.{arith}
use native.Mathlib.Decide.{dec_lt}
use borrow.Author.Tests.{eqb-true, eq-eqb, ne_eqb, lt-ltb, le-ltb, lt-leb}
use lib.Dec.{eqb, leb}
use lib.Pointwise.{pointwise}
use lib.ListN.{length, get_or, take, drop}
use lib.Seq.{drop-cons}
use Rattle.wire.specs.Wire.{part, keep}
use Rattle.format.specs.Refusal.{one_of}
use Rattle.format.proofs.Versions.{no_way}
use Rattle.format.proofs.Tests.{one_here, one_skip}
use Rattle.map.specs.Map.{same, has}
use Rattle.map.specs.Rows.{cell_of, key_of, stored, Grown, Sprout, plain_at, nested_at, value_at, entries_at, below, map_at}
use Rattle.map.specs.Keys.{key_stored, key_at, after_at, doubled_in, doubled_below, doubled_at}
use Rattle.map.specs.Inner.{Run, keys_from, Repeats}
use Rattle.map.proofs.Laws.{both}
use Rattle.map.proofs.Turns.{unroll, ran_out, value_plain, value_nested, below_is}

-- ---- texts
pub part_cons : (b : List ℕ) (x n : ℕ) → x < length b → part b x (suc n) ≡ get_or b x 0 ∷ part b (x + 1) n
unfolding part
part_cons b x n h = rw (drop-cons b x 0 h, add-one)

pub part_none : (b : List ℕ) (x : ℕ) → part b x 0 ≡ []
unfolding part
part_none b x = refl

pub same_refl : (xs : List ℕ) → same xs xs ≡ true
unfolding same
same_refl [] = refl
same_refl (x ∷ xs) = rw (eq-eqb x x refl) (same_refl xs)

pub same_is : (xs ys : List ℕ) → same xs ys ≡ true → xs ≡ ys
unfolding same
same_is [] [] e = refl
same_is [] (y ∷ ys) e = no_way e
same_is (x ∷ xs) [] e = no_way e
same_is (x ∷ xs) (y ∷ ys) e = let (a, b) = both (eqb x y) (same xs ys) e in ap₂ (λ (i : ℕ) (l : List ℕ). i ∷ l) (eqb-true x y a) (same_is xs ys b)

-- texts that are compared pair by pair
same_pairs : (xs ys : List ℕ) → pointwise eqb xs ys ≡ same xs ys
unfolding same
same_pairs [] [] = refl
same_pairs [] (y ∷ ys) = refl
same_pairs (x ∷ xs) [] = refl
same_pairs (x ∷ xs) (y ∷ ys) = ap (λ b. eqb x y && b) (same_pairs xs ys)

pub parts_same : (b : List ℕ) (x m y n : ℕ) → pointwise eqb (take (x + m - x) (drop x b)) (take (y + n - y) (drop y b)) ≡ same (part b x m) (part b y n)
unfolding part
parts_same b x m y n =
    let first : x + m - x ≡ m = omega arith in
    let second : y + n - y ≡ n = omega arith in
    rw (first, second) (same_pairs (take m (drop x b)) (take n (drop y b)))

-- ---- a key and its row
module _ (rows texts : List ℕ) (k : ℕ) {x n : ℕ} (ex : x ≡ cell_of rows k 1) (en : n ≡ cell_of rows k 2) where
  pub stored_as : leb (x + n) (length texts) ≡ key_stored rows texts k
  unfolding stored
  stored_as = rw (ex, en)

  pub key_in : key_stored rows texts k ≡ true → x + n ≤ length texts
  unfolding stored
  key_in e = elim (dec_lt (length texts) (x + n)) [
    | yes l ↦ let z = lt-leb (cell_of rows k 1 + cell_of rows k 2) (length texts) (omega arith) in no_way (sym z ∙ e)
    | no r ↦ omega arith
  ]

  pub key_as : key_of rows texts k ≡ part texts x n
  unfolding key_of
  key_as = rw (ex, en)

pub keys_as : (rows texts : List ℕ) (q k : ℕ) {x m y n : ℕ} {s r : Bool} → x ≡ cell_of rows q 1 → m ≡ cell_of rows q 2 → y ≡ cell_of rows k 1 → n ≡ cell_of rows k 2
    → s ≡ key_stored rows texts q → s ≡ true → r ≡ same (part texts x m) (part texts y n) → r ≡ (key_stored rows texts q && same (key_of rows texts q) (key_of rows texts k))
keys_as rows texts q k ex em ey en es t er =
    er ∙ ap₂ same (sym (key_as rows texts q ex em)) (sym (key_as rows texts k ey en)) ∙ ap (λ b. b && same (key_of rows texts q) (key_of rows texts k)) (sym t ∙ es)

pub no_key : (rows texts : List ℕ) (q k : ℕ) {s : Bool} → s ≡ key_stored rows texts q → s ≡ false → false ≡ (key_stored rows texts q && same (key_of rows texts q) (key_of rows texts k))
no_key rows texts q k es f = ap (λ b. b && same (key_of rows texts q) (key_of rows texts k)) (sym f ∙ es)

-- ---- entries that are passed over: the texts do not matter
none_at : (rows texts : List ℕ) (d k : ℕ) → (map_at rows texts d k 0).next ≡ k
unfolding entries_at
none_at rows texts d k = refl

none_next : (rows texts : List ℕ) (d k n : ℕ) → d ≡ 0 → (below rows texts d k n).next ≡ k
unfolding below
none_next rows texts d k n e = rw e

module _ (rows t u : List ℕ) where
  abbrev Same : ℕ → Type 0
  Same d = (k n : ℕ) → (below rows t d k n).next ≡ (below rows u d k n).next

  value_next : (d k : ℕ) → Same d → (value_at (below rows t d) rows t k).after ≡ (value_at (below rows u d) rows u k).after
  unfolding value_at
  value_next d k s = go (eqb (cell_of rows k 0) 2)
    where
      go : (b : Bool) → (cond b (nested_at rows t k (below rows t d (k + 1) (cell_of rows k 3))) (plain_at rows t k)).after ≡ (cond b (nested_at rows u k (below rows u d (k + 1) (cell_of rows k 3))) (plain_at rows u k)).after
      go true = s (k + 1) (cell_of rows k 3)
      go false = refl

  entries_next : (d : ℕ) → Same d → (n k : ℕ) → (map_at rows t d k n).next ≡ (map_at rows u d k n).next
  entries_next d s zero k = none_at rows t d k ∙ sym (none_at rows u d k)
  entries_next d s (suc n) k = elim (dec_lt (5 * k + 4) (length rows)) [
    | no r ↦ ap (λ (g : Grown). g.next) (ran_out rows t d k (suc n) (omega arith) (omega arith)) ∙ sym (ap (λ (g : Grown). g.next) (ran_out rows u d k (suc n) (omega arith) (omega arith)))
    | yes l ↦
        let less : suc n - 1 ≡ n = omega arith in
        ap (λ (g : Grown). g.next) (unroll rows t d k (suc n) _ (omega arith) l refl)
        ∙ ap₂ (λ (i j : ℕ). (map_at rows t d i j).next) (value_next d k s) less
        ∙ entries_next d s n (value_at (below rows u d) rows u k).after
        ∙ ap (λ j. (map_at rows u d (value_at (below rows u d) rows u k).after j).next) (sym less)
        ∙ sym (ap (λ (g : Grown). g.next) (unroll rows u d k (suc n) _ (omega arith) l refl))
  ]

  below_next : (d : ℕ) → Same d
  unfolding below
  below_next zero k n = refl
  below_next (suc d) k n = entries_next d (below_next d) n k

  pub next_same : (d k n : ℕ) → (map_at rows t d k n).next ≡ (map_at rows u d k n).next
  next_same d k n = entries_next d (below_next d) n k

-- the loop that passes over entries
pub record Skipping (rows : List ℕ) (d i count k left : ℕ) : Type 0 where
  pub next_is : (map_at rows [] d k left).next ≡ (map_at rows [] d i count).next
  pub far : i ≤ k
  pub few : left ≤ count
  pub moved : left < count → i < k

pub skipping_start : (rows : List ℕ) (d i count : ℕ) → Skipping rows d i count i count
skipping_start rows d i count = record { next_is = refl; far = omega arith; few = omega arith; moved = λ z. absurd (omega arith) }

module _ {rows : List ℕ} {d i count k left : ℕ} (g : Skipping rows d i count k left) where
  pub skipping_done : left ≤ 0 → (k ≡ (map_at rows [] d i count).next) × (i ≤ k) × (0 < count → 5 * i + 4 < length rows → i < k)
  skipping_done h =
      let e : left ≡ 0 = omega arith in
      (sym (ap (λ j. (map_at rows [] d k j).next) e ∙ none_at rows [] d k) ∙ g.next_is, g.far, λ z r. g.moved (omega arith))

  module _ (h : 0 < left) where
    pub skipping_out : length rows / 5 ≤ k → (k ≡ (map_at rows [] d i count).next) × (i ≤ k) × (0 < count → 5 * i + 4 < length rows → i < k)
    skipping_out l = (sym (ap (λ (w : Grown). w.next) (ran_out rows [] d k left h (omega arith))) ∙ g.next_is, g.far, λ z r. omega (arith, g.far))

    module _ (row : k < length rows / 5) where
      skipped : {r : ℕ} → r ≡ after_at rows [] d k → k < r → Skipping rows d i count r (left - 1)
      skipped {r} e far =
          let u = unroll rows [] d k left _ h (omega arith) refl in
          record {
            next_is = ap (λ j. (map_at rows [] d j (left - 1)).next) e ∙ sym (ap (λ (w : Grown). w.next) u) ∙ g.next_is;
            far = omega (arith, g.far);
            few = omega (arith, g.few);
            moved = λ z. omega (arith, g.far);
          }

      pub skipping_plain : {kind : ℕ} → kind ≡ cell_of rows k 0 → (kind ≡ 2 → ⊥) → Skipping rows d i count (k + 1) (left - 1)
      skipping_plain e n = skipped (sym (ap (λ (v : Sprout). v.after) (value_plain rows [] d k (λ q. n (e ∙ q))))) (omega arith)

      module _ {kind : ℕ} (e : kind ≡ cell_of rows k 0) (two : kind ≡ 2) where
        pub skipping_deep : d ≡ 0 → Skipping rows d i count (k + 1) (left - 1)
        skipping_deep z = skipped (sym (ap (λ (v : Sprout). v.after) (value_nested rows [] d k (sym e ∙ two)) ∙ none_next rows [] d (k + 1) (cell_of rows k 3) z)) (omega arith)

        pub skipping_nested : {own r : ℕ} → (d ≡ 0 → ⊥) → own ≡ cell_of rows k 3 → r ≡ (map_at rows [] (d - 1) (k + 1) own).next → k + 1 ≤ r → Skipping rows d i count r (left - 1)
        skipping_nested {own} n eo er far =
            skipped (er ∙ sym (ap (λ (v : Sprout). v.after) (value_nested rows [] d k (sym e ∙ two)) ∙ ap (λ (w : Grown). w.next) (below_is rows [] d (k + 1) (cell_of rows k 3) (omega arith) ∙ ap (map_at rows [] (d - 1) (k + 1)) (sym eo)))) (omega arith)

-- the row after an entry
pub after_is : (rows texts : List ℕ) (d k : ℕ) {r : ℕ} → 5 * k + 4 < length rows → r ≡ (map_at rows [] d k 1).next → r ≡ after_at rows texts d k
after_is rows texts d k h e =
    e ∙ next_same rows [] texts d k 1 ∙ ap (λ (w : Grown). w.next) (unroll rows texts d k 1 _ (omega arith) h refl)
    ∙ none_at rows texts d (after_at rows texts d k)

-- ---- a key among others
pub has_append : (xs ys : List (List ℕ)) (key : List ℕ) → has (xs ++ ys) key ≡ (has xs key || has ys key)
unfolding has
has_append [] ys key = refl
has_append (x ∷ xs) ys key = go (same x key) (has_append xs ys key)
  where
    go : (b : Bool) → has (xs ++ ys) key ≡ (has xs key || has ys key) → (b || has (xs ++ ys) key) ≡ ((b || has xs key) || has ys key)
    go true e = refl
    go false e = e

pub has_key : (rows texts : List ℕ) (q : ℕ) (key : List ℕ) → has (key_at rows texts q) key ≡ (key_stored rows texts q && same (key_of rows texts q) key)
unfolding has key_at keep
has_key rows texts q key = go (key_stored rows texts q)
  where
    or-false : (b : Bool) → (b || false) ≡ b
    or-false true = refl
    or-false false = refl

    go : (b : Bool) → has (keep b (key_of rows texts q ∷ [])) key ≡ (b && same (key_of rows texts q) key)
    go true = or-false (same (key_of rows texts q) key)
    go false = refl

-- the keys from q up to k, of which there are m
pub record Looked (rows texts : List ℕ) (d i k q n : ℕ) : Type 0 where
  pub m : ℕ
  pub run : Run rows texts d q m k
  pub is : has (keys_from rows texts d m q) (key_of rows texts k) ≡ has (keys_from rows texts d n i) (key_of rows texts k)

pub record Looking (rows texts : List ℕ) (d i k q : ℕ) : Type 0 where
  pub at : (n : ℕ) → Run rows texts d i n k → Looked rows texts d i k q n

pub looking_start : (rows texts : List ℕ) (d i k : ℕ) → Looking rows texts d i k i
looking_start rows texts d i k = record { at = λ n r. record { m = n; run = r; is = refl } }

none_looked : (rows texts : List ℕ) (d k q m : ℕ) → Run rows texts d q m k → k ≤ q → has (keys_from rows texts d m q) (key_of rows texts k) ≡ false
unfolding Run keys_from has
none_looked rows texts d k q zero r h = refl
none_looked rows texts d k q (suc m) r h = absurd (omega (arith, r.1))

pub looking_away : (rows texts : List ℕ) (d i k : ℕ) {s : Bool} → s ≡ key_stored rows texts k → s ≡ false → Repeats rows texts d i k false
looking_away rows texts d i k es f = record { is = λ n r. ap (λ b. b && has (keys_from rows texts d n i) (key_of rows texts k)) (sym f ∙ es) }

key_here : (rows texts : List ℕ) (d k q m : ℕ) {x : Bool} → q < k → x ≡ (key_stored rows texts q && same (key_of rows texts q) (key_of rows texts k)) → x ≡ true → Run rows texts d q m k
    → has (keys_from rows texts d m q) (key_of rows texts k) ≡ true
unfolding Run keys_from
key_here rows texts d k q zero h ex y r = absurd (omega (arith, h))
key_here rows texts d k q (suc m) h ex y r =
    has_append (key_at rows texts q) _ (key_of rows texts k)
    ∙ ap (λ b. b || has (keys_from rows texts d m (after_at rows texts d q)) (key_of rows texts k)) (has_key rows texts q (key_of rows texts k) ∙ sym ex ∙ y)

key_later : (rows texts : List ℕ) (d i k q m n : ℕ) {x : Bool} → q < k → x ≡ (key_stored rows texts q && same (key_of rows texts q) (key_of rows texts k)) → x ≡ false → Run rows texts d q m k
    → has (keys_from rows texts d m q) (key_of rows texts k) ≡ has (keys_from rows texts d n i) (key_of rows texts k) → Looked rows texts d i k (after_at rows texts d q) n
unfolding Run keys_from
key_later rows texts d i k q zero n h ex y r z = absurd (omega (arith, h))
key_later rows texts d i k q (suc m) n h ex y r z = record {
  m = m;
  run = r.2;
  is =
      sym (has_append (key_at rows texts q) _ (key_of rows texts k)
      ∙ ap (λ b. b || has (keys_from rows texts d m (after_at rows texts d q)) (key_of rows texts k)) (has_key rows texts q (key_of rows texts k) ∙ sym ex ∙ y)) ∙ z;
}

module _ {rows texts : List ℕ} {d i k q : ℕ} {s : Bool} (es : s ≡ key_stored rows texts k) (t : s ≡ true) (g : Looking rows texts d i k q) where
  pub looking_done : k ≤ q → Repeats rows texts d i k false
  looking_done h = record {
    is = λ n r.
        let l = g.at n r in
        ap₂ ◌&&◌ (sym t ∙ es) (sym (none_looked rows texts d k q l.m l.run h) ∙ l.is);
  }

  module _ (h : q < k) {x : Bool} (ex : x ≡ (key_stored rows texts q && same (key_of rows texts q) (key_of rows texts k))) where
    pub looking_same : x ≡ true → Repeats rows texts d i k true
    looking_same y = record { is = λ n r. let l = g.at n r in ap₂ ◌&&◌ (sym t ∙ es) (sym (key_here rows texts d k q l.m h ex y l.run) ∙ l.is) }

    pub looking_more : {next : ℕ} → x ≡ false → next ≡ after_at rows texts d q → Looking rows texts d i k next
    looking_more {next} y e = record { at = λ n r. let l = g.at n r in rw e (key_later rows texts d i k q l.m n h ex y l.run l.is) }

-- ---- one entry more
pub run_snoc : (rows texts : List ℕ) (d q n k : ℕ) → Run rows texts d q n k → 5 * k + 4 < length rows → k < after_at rows texts d k
    → Run rows texts d q (suc n) (after_at rows texts d k) × (keys_from rows texts d (suc n) q ≡ keys_from rows texts d n q ++ key_at rows texts k)
unfolding Run keys_from
run_snoc rows texts d q zero k r h far = rw r ((h, far, refl), append-nil (key_at rows texts k))
run_snoc rows texts d q (suc n) k r h far =
    let (a, b) = run_snoc rows texts d (after_at rows texts d q) n k r.2 h far in
    ((r.0, omega (arith, r.1), a), ap (λ l. key_at rows texts q ++ l) b ∙ sym (append_assoc (key_at rows texts q) (keys_from rows texts d n (after_at rows texts d q)) (key_at rows texts k)))

pub record Doubling (rows texts : List ℕ) (d i count k left : ℕ) : Type 0 where
  pub n : ℕ
  pub run : Run rows texts d i n k
  pub is : doubled_in (doubled_below rows texts d) rows texts d (keys_from rows texts d n i) left k ≡ doubled_at rows texts d i count

pub doubling_start : (rows texts : List ℕ) (d i count : ℕ) → Doubling rows texts d i count i count
unfolding Run keys_from
doubling_start rows texts d i count = record { n = 0; run = refl; is = refl }

module _ (rows texts : List ℕ) (d k : ℕ) (keys : List (List ℕ)) where
  pub doubled_step : (left : ℕ) → 0 < left → 5 * k + 4 < length rows → doubled_in (doubled_below rows texts d) rows texts d keys left k
      ≡ one_of ((key_stored rows texts k && has keys (key_of rows texts k)) ∷ (eqb (cell_of rows k 0) 2 && doubled_below rows texts d (k + 1) (cell_of rows k 3)) ∷ doubled_in (doubled_below rows texts d) rows texts d (keys ++ key_at rows texts k) (left - 1) (after_at rows texts d k) ∷ [])
  unfolding doubled_in
  doubled_step zero h l = absurd (omega arith)
  doubled_step (suc n) h l = rw (sub-one, lt-ltb (5 * k + 4) (length rows) l)

  pub doubled_out : (left : ℕ) → length rows ≤ 5 * k + 4 → doubled_in (doubled_below rows texts d) rows texts d keys left k ≡ false
  unfolding doubled_in
  doubled_out zero l = refl
  doubled_out (suc n) l = rw (le-ltb (5 * k + 4) (length rows) l)

  pub doubled_none : (left : ℕ) → left ≤ 0 → doubled_in (doubled_below rows texts d) rows texts d keys left k ≡ false
  unfolding doubled_in
  doubled_none zero l = refl
  doubled_none (suc n) l = absurd (omega arith)

inner_is : (rows texts : List ℕ) (d k n : ℕ) → (d ≡ 0 → ⊥) → doubled_below rows texts d k n ≡ doubled_at rows texts (d - 1) k n
unfolding doubled_below
inner_is rows texts zero k n h = absurd (h refl)
inner_is rows texts (suc d) k n h = rw sub-one

inner_none : (rows texts : List ℕ) (d k n : ℕ) → d ≡ 0 → doubled_below rows texts d k n ≡ false
unfolding doubled_below
inner_none rows texts d k n e = rw e

last_is : (b : Bool) → one_of (b ∷ []) ≡ b
unfolding one_of
last_is true = refl
last_is false = refl

and_false : (b : Bool) → (b && false) ≡ false
and_false true = refl
and_false false = refl

module _ {rows texts : List ℕ} {d i count k left : ℕ} (g : Doubling rows texts d i count k left) where
  pub doubling_done : left ≤ 0 → false ≡ doubled_at rows texts d i count
  doubling_done h = sym (doubled_none rows texts d k (keys_from rows texts d g.n i) left h) ∙ g.is

  pub doubling_out : length rows / 5 ≤ k → false ≡ doubled_at rows texts d i count
  doubling_out h = sym (doubled_out rows texts d k (keys_from rows texts d g.n i) left (omega arith)) ∙ g.is

  module _ (h : 0 < left) (row : k < length rows / 5) {x : Bool} (ex : Repeats rows texts d i k x) where
    abbrev keys : List (List ℕ)
    keys = keys_from rows texts d g.n i

    step : doubled_at rows texts d i count ≡ one_of (x ∷ (eqb (cell_of rows k 0) 2 && doubled_below rows texts d (k + 1) (cell_of rows k 3)) ∷ doubled_in (doubled_below rows texts d) rows texts d (keys ++ key_at rows texts k) (left - 1) (after_at rows texts d k) ∷ [])
    step =
        sym g.is ∙ doubled_step rows texts d k keys left h (omega arith)
        ∙ ap (λ b. one_of (b ∷ (eqb (cell_of rows k 0) 2 && doubled_below rows texts d (k + 1) (cell_of rows k 3)) ∷ doubled_in (doubled_below rows texts d) rows texts d (keys ++ key_at rows texts k) (left - 1) (after_at rows texts d k) ∷ [])) (sym (ex.is g.n g.run))

    pub doubling_here : x ≡ true → true ≡ doubled_at rows texts d i count
    doubling_here t = one_here x _ t ∙ sym step

    module _ (f : x ≡ false) {next : ℕ} (en : next ≡ (map_at rows [] d k 1).next) (far : k < next) where
      again : (b : Bool) → (eqb (cell_of rows k 0) 2 && doubled_below rows texts d (k + 1) (cell_of rows k 3)) ≡ b → b ≡ false → Doubling rows texts d i count next (left - 1)
      again b eb z =
          let e = after_is rows texts d k (omega arith) en in
          let (run, more) = run_snoc rows texts d i g.n k g.run (omega arith) (omega (arith, e)) in
          let rest = doubled_in (doubled_below rows texts d) rows texts d (keys ++ key_at rows texts k) (left - 1) (after_at rows texts d k) in
          rw e (record {
            n = suc g.n;
            run = run;
            is = ap (λ l. doubled_in (doubled_below rows texts d) rows texts d l (left - 1) (after_at rows texts d k)) more
                ∙ one_skip rest x _ f (one_skip rest _ _ (eb ∙ z) (sym (last_is rest))) ∙ sym step;
          })

      pub doubling_plain : {kind : ℕ} → kind ≡ cell_of rows k 0 → (kind ≡ 2 → ⊥) → Doubling rows texts d i count next (left - 1)
      doubling_plain e n = again false (ap (λ b. b && doubled_below rows texts d (k + 1) (cell_of rows k 3)) (ne_eqb (cell_of rows k 0) 2 (λ q. n (e ∙ q)))) refl

      pub doubling_deep : d ≤ 0 → Doubling rows texts d i count next (left - 1)
      doubling_deep z = again false (ap (λ b. eqb (cell_of rows k 0) 2 && b) (inner_none rows texts d (k + 1) (cell_of rows k 3) (omega arith)) ∙ and_false (eqb (cell_of rows k 0) 2)) refl

      pub doubling_nested : {own : ℕ} {y : Bool} → 0 < d → own ≡ cell_of rows k 3 → y ≡ doubled_at rows texts (d - 1) (k + 1) own → y ≡ false → Doubling rows texts d i count next (left - 1)
      doubling_nested {own} n eo ey z =
          again false (ap (λ b. eqb (cell_of rows k 0) 2 && b) (inner_is rows texts d (k + 1) (cell_of rows k 3) (omega arith) ∙ ap (doubled_at rows texts (d - 1) (k + 1)) (sym eo) ∙ sym ey ∙ z) ∙ and_false (eqb (cell_of rows k 0) 2)) refl

    pub doubling_inside : {kind own : ℕ} {y : Bool} → x ≡ false → kind ≡ cell_of rows k 0 → kind ≡ 2 → 0 < d → own ≡ cell_of rows k 3 → y ≡ doubled_at rows texts (d - 1) (k + 1) own → y ≡ true → true ≡ doubled_at rows texts d i count
    doubling_inside f e two n eo ey t =
        one_skip true x _ f (one_here _ _ (ap₂ ◌&&◌ (eq-eqb (cell_of rows k 0) 2 (sym e ∙ two)) (inner_is rows texts d (k + 1) (cell_of rows k 3) (omega arith) ∙ ap (doubled_at rows texts (d - 1) (k + 1)) (sym eo) ∙ sym ey ∙ t))) ∙ sym step

-- One turn of the writer's loop: what the first of n entries is, and what the others are.
-- Assumes nothing.
use mathlib.Core.Path.{◌≡◌, refl, sym, ap, ◌∙◌}
use mathlib.Core.Bool.{Bool, true, false}
use mathlib.Core.List.{List, [], ◌∷◌, ◌++◌, append_assoc}
use Prim.Native.Nat.{ℕ, zero, suc, ◌+◌, ◌-◌, ◌*◌, ◌≤◌, ◌<◌}
use native.Mathlib.Numerals.{sub-one}
use native.Mathlib.Omega.{arith}
use native.Mathlib.Decide.{dec_lt}
use borrow.Author.Tests.{eq-eqb, ne_eqb, eqb-true, eqb-false, lt-ltb, le-ltb}
use lib.Dec.{eqb}
use lib.ListN.{length}
use Rattle.map.specs.Map.{text_bytes, value_bytes, body_of, empty}
use Rattle.map.specs.Rows.{cell_of, key_of, plain_of, row_wrong, Grown, Sprout, grown, plain_at, nested_at, value_at, entries_at, below, map_at}
use Rattle.map.specs.Inner.{inside}
use Rattle.wire.proofs.Writers.{Left}
use Rattle.map.proofs.Laws.{worse_none, inside_is}

-- g is the entries from a row on: a key that is written so, a value that is written so, and the rest
pub record Turn (g rest : Grown) (key value : List ℕ) : Type 0 where
  pub first : body_of g.map ≡ key ++ (value ++ body_of rest.map)
  pub last : rest.next ≡ g.next
  pub ok : rest.refusal ≡ 0

module _ (rows texts : List ℕ) (d k : ℕ) where
  -- the first of some entries, where its value is v; or its row is not there
  pub unroll : (n : ℕ) (v : Sprout) → 0 < n → 5 * k + 4 < length rows → value_at (below rows texts d) rows texts k ≡ v
      → map_at rows texts d k n ≡ grown (key_of rows texts k) v (map_at rows texts d v.after (n - 1))
  unfolding entries_at
  unroll zero v h l q = absurd (omega arith)
  unroll (suc n) v h l q =
      let joined : Sprout → Grown = λ v. grown (key_of rows texts k) v (map_at rows texts d v.after n) in
      rw (sub-one, lt-ltb (5 * k + 4) (length rows) l) (ap joined q)

  pub ran_out : (n : ℕ) → 0 < n → length rows ≤ 5 * k + 4 → map_at rows texts d k n ≡ record { map = empty; next = k; refusal = 23 }
  unfolding entries_at
  ran_out zero h l = absurd (omega arith)
  ran_out (suc n) h l = rw (le-ltb (5 * k + 4) (length rows) l)

  pub row_there : (n : ℕ) → 0 < n → (map_at rows texts d k n).refusal ≡ 0 → 5 * k + 4 < length rows
  row_there n h e = elim (dec_lt (5 * k + 4) (length rows)) [
    | yes l ↦ l
    | no r ↦ let z = sym (ap (λ (g : Grown). g.refusal) (ran_out n h (omega arith))) ∙ e in absurd (omega (arith, z))
  ]

  turn : (n : ℕ) (v : Sprout) → 0 < n → value_at (below rows texts d) rows texts k ≡ v → (map_at rows texts d k n).refusal ≡ 0
      → Turn (map_at rows texts d k n) (map_at rows texts d v.after (n - 1)) (text_bytes (key_of rows texts k)) (value_bytes v.value) × (v.refusal ≡ 0)
  unfolding body_of
  turn n v h q e =
      let same = unroll n v h (row_there n h e) q in
      let (a, b) = worse_none v.refusal (map_at rows texts d v.after (n - 1)).refusal (sym (ap (λ g. g.refusal) same) ∙ e) in
      (record { first = ap (λ g. body_of g.map) same; last = sym (ap (λ g. g.next) same); ok = b }, a)

  pub value_plain : (cell_of rows k 0 ≡ 2 → ⊥) → value_at (below rows texts d) rows texts k ≡ plain_at rows texts k
  unfolding value_at
  value_plain z = rw (ne_eqb (cell_of rows k 0) 2 z)

  pub value_nested : cell_of rows k 0 ≡ 2 → value_at (below rows texts d) rows texts k ≡ nested_at rows texts k (below rows texts d (k + 1) (cell_of rows k 3))
  unfolding value_at
  value_nested z = rw (eq-eqb (cell_of rows k 0) 2 z)

  -- it is no map
  pub plain_turn : (n : ℕ) {kind : ℕ} → 0 < n → kind ≡ cell_of rows k 0 → (kind ≡ 2 → ⊥) → (map_at rows texts d k n).refusal ≡ 0
      → Turn (map_at rows texts d k n) (map_at rows texts d (k + 1) (n - 1)) (text_bytes (key_of rows texts k)) (value_bytes (plain_of rows texts k))
  plain_turn n h f z e = (turn n (plain_at rows texts k) h (value_plain (λ r. z (f ∙ r))) e).0

  -- it is a map: what is inside, and the bytes as they are written
  pub record Nested (n own : ℕ) : Type 0 where
    pub deep : 1 ≤ d
    pub inner : (map_at rows texts (d - 1) (k + 1) own).refusal ≡ 0
    pub first : body_of (map_at rows texts d k n).map
        ≡ text_bytes (key_of rows texts k) ++ ((0x7b ∷ []) ++ (body_of (map_at rows texts (d - 1) (k + 1) own).map ++ ((0x7d ∷ []) ++ body_of (map_at rows texts d (map_at rows texts (d - 1) (k + 1) own).next (n - 1)).map)))
    pub last : (map_at rows texts d (map_at rows texts (d - 1) (k + 1) own).next (n - 1)).next ≡ (map_at rows texts d k n).next
    pub ok : (map_at rows texts d (map_at rows texts (d - 1) (k + 1) own).next (n - 1)).refusal ≡ 0

pub below_none : (rows texts : List ℕ) (d k n : ℕ) → (below rows texts d k n).refusal ≡ 0 → 1 ≤ d
unfolding below
below_none rows texts zero k n e = absurd (omega arith)
below_none rows texts (suc d) k n e = omega arith

pub below_is : (rows texts : List ℕ) (d k n : ℕ) → 1 ≤ d → below rows texts d k n ≡ map_at rows texts (d - 1) k n
unfolding below
below_is rows texts zero k n h = absurd (omega arith)
below_is rows texts (suc d) k n h = rw sub-one

module _ (rows texts : List ℕ) (d k : ℕ) where
  pub nested_turn : (n : ℕ) {kind own : ℕ} → 0 < n → kind ≡ cell_of rows k 0 → kind ≡ 2 → own ≡ cell_of rows k 3 → (map_at rows texts d k n).refusal ≡ 0 → Nested rows texts d k n own
  unfolding value_bytes
  nested_turn n h f z o e =
      let b = below rows texts d (k + 1) (cell_of rows k 3) in
      let (t, good) = turn rows texts d k n (nested_at rows texts k b) h (value_nested rows texts d k (sym f ∙ z)) e in
      let s = (worse_none (row_wrong rows texts k) b.refusal good).1 in
      let deep = below_none rows texts d (k + 1) (cell_of rows k 3) s in
      let same = below_is rows texts d (k + 1) (cell_of rows k 3) deep in
      let body = body_of (map_at rows texts (d - 1) (k + 1) (cell_of rows k 3)).map in
      let others = map_at rows texts d (map_at rows texts (d - 1) (k + 1) (cell_of rows k 3)).next (n - 1) in
      let u : Turn (map_at rows texts d k n) others (text_bytes (key_of rows texts k)) (0x7b ∷ (body ++ (0x7d ∷ []))) = rw same at t in
      rw o (record {
        deep = deep;
        inner = rw same at s;
        first = u.first ∙ ap (λ l. text_bytes (key_of rows texts k) ++ (0x7b ∷ l)) (append_assoc body (0x7d ∷ []) (body_of others.map));
        last = u.last;
        ok = u.ok;
      })

  -- the key of the first entry, whatever follows
  pub record Head (n : ℕ) : Type 0 where
    pub row : inside rows texts k ≡ true
    pub rest : List ℕ
    pub first : body_of (map_at rows texts d k n).map ≡ text_bytes (key_of rows texts k) ++ rest

  pub head_of : (n : ℕ) → 0 < n → (map_at rows texts d k n).refusal ≡ 0 → Head n
  head_of n h e = go (eqb (cell_of rows k 0) 2) refl
    where
      go : (b : Bool) → eqb (cell_of rows k 0) 2 ≡ b → Head n
      go true q =
          let (t, good) = turn rows texts d k n _ h (value_nested rows texts d k (eqb-true _ _ q)) e in
          record { row = inside_is rows texts k (row_there rows texts d k n h e) (worse_none (row_wrong rows texts k) _ good).0; rest = _; first = t.first }
      go false q =
          let (t, good) = turn rows texts d k n _ h (value_plain rows texts d k (eqb-false _ _ q)) e in
          record { row = inside_is rows texts k (row_there rows texts d k n h e) good; rest = _; first = t.first }

-- no entries are left
pub no_more : (rows texts : List ℕ) (d k n : ℕ) → n ≤ 0 → (body_of (map_at rows texts d k n).map ≡ []) × ((map_at rows texts d k n).next ≡ k)
unfolding entries_at body_of
no_more rows texts d k zero h = (refl, refl)
no_more rows texts d k (suc n) h = absurd (omega arith)

-- the loop's invariant after an entry: the entries left are sound, end where all end, and are what is left to write
abbrev pub Rest : List ℕ → List ℕ → ℕ → ℕ → ℕ → ℕ → List ℕ → ℕ → List ℕ → List ℕ → ℕ → Type 0
Rest rows texts d k n last first at all now p =
    ((map_at rows texts d k n).refusal ≡ 0) × ((map_at rows texts d k n).next ≡ last) × Left first at all now p (body_of (map_at rows texts d k n).map)

module _ {rows texts : List ℕ} {d k n own last : ℕ} {first all now : List ℕ} {at p next : ℕ} where
  pub nested_again : Nested rows texts d k n own → (map_at rows texts d k n).next ≡ last → next ≡ (map_at rows texts (d - 1) (k + 1) own).next
      → Left first at all now p (body_of (map_at rows texts d (map_at rows texts (d - 1) (k + 1) own).next (n - 1)).map)
      → Rest rows texts d next (n - 1) last first at all now p
  nested_again t e f l = rw f (t.ok, t.last ∙ e, l)

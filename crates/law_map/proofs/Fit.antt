-- Rows with nothing wrong stand for a map that fits, and have a key twice exactly where it has.
-- Assumes nothing.
use mathlib.Core.Path.{◌≡◌, refl, sym, ap, ap₂, ◌∙◌}
use mathlib.Core.Bool.{Bool, true, false, cond, ◌&&◌, ◌||◌}
use mathlib.Core.List.{List, [], ◌∷◌, ◌++◌}
use Prim.Native.Nat.{ℕ, zero, suc, ◌+◌, ◌-◌, ◌*◌, ◌<◌}
use native.Mathlib.Omega.{arith}
use native.Mathlib.Decide.{ℕ_discrete}
use borrow.Author.Tests.{eq-eqb, ne_eqb, le-leb}
use lib.Dec.{eqb, leb}
use lib.ListN.{length}
use Rattle.wire.specs.Wire.{part, keep}
use Rattle.format.specs.Refusal.{one_of}
use Rattle.map.specs.Map.{text, number, map, fits_value, fits, has, twice_value, twice_in}
use Rattle.map.specs.Rows.{cell_of, key_of, plain_of, stored, row_wrong, Grown, Sprout, grown, value_at, entries_at, below, map_at}
use Rattle.map.specs.Keys.{key_stored, key_at, after_at, doubled_in, doubled_below, doubled_at}
use Rattle.law_map.specs.Terms.{Words}
use Rattle.map.proofs.Laws.{Row, row_right, length_part, worse_none}
use Rattle.map.proofs.Turns.{unroll, row_there, value_plain, value_nested}
use Rattle.map.proofs.KeyLaws.{doubled_step}

key_short : (rows texts : List ℕ) (k : ℕ) → Row rows texts k → length (key_of rows texts k) < 256
unfolding key_of
key_short rows texts k r = rw (length_part texts (cell_of rows k 1) (cell_of rows k 2) r.key) r.key_short

plain_fits : (rows texts : List ℕ) (d k : ℕ) → Words rows → Row rows texts k → fits_value (plain_of rows texts k) d
unfolding plain_of fits_value cell_of
plain_fits rows texts d k w r = elim (ℕ_discrete (cell_of rows k 0) 0) [
  | yes e ↦ let (in_store, short) = r.text e in rw (eq-eqb (cell_of rows k 0) 0 e) (rw (length_part texts (cell_of rows k 3) (cell_of rows k 4) in_store) short)
  | no n ↦ rw (ne_eqb (cell_of rows k 0) 0 n) (w (5 * k + 3))
]

plain_once : (rows texts : List ℕ) (k : ℕ) → twice_value (plain_of rows texts k) ≡ false
unfolding plain_of twice_value
plain_once rows texts k = go (eqb (cell_of rows k 0) 0)
  where
    go : (b : Bool) → twice_value (cond b (text (part texts (cell_of rows k 3) (cell_of rows k 4))) (number (cell_of rows k 3))) ≡ false
    go true = refl
    go false = refl

-- maps inside fit, and have a key twice where their rows have
record Inner (rows texts : List ℕ) (d : ℕ) : Type 0 where
  fit : (k n : ℕ) → (below rows texts d k n).refusal ≡ 0 → fits_value (map (below rows texts d k n).map) d
  twice : (k n : ℕ) → (below rows texts d k n).refusal ≡ 0 → twice_in [] (below rows texts d k n).map ≡ doubled_below rows texts d k n

record Right (rows texts : List ℕ) (d k : ℕ) (v : Sprout) : Type 0 where
  own : row_wrong rows texts k ≡ 0
  fit : fits_value v.value d
  twice : twice_value v.value ≡ (eqb (cell_of rows k 0) 2 && doubled_below rows texts d (k + 1) (cell_of rows k 3))

value_right : (rows texts : List ℕ) (d k : ℕ) → Words rows → Inner rows texts d → 5 * k + 4 < length rows → (value_at (below rows texts d) rows texts k).refusal ≡ 0
    → Right rows texts d k (value_at (below rows texts d) rows texts k)
unfolding twice_value
value_right rows texts d k w inner there e = elim (ℕ_discrete (cell_of rows k 0) 2) [
  | yes y ↦
      let v = value_nested rows texts d k y in
      let g = below rows texts d (k + 1) (cell_of rows k 3) in
      let (a, z) = worse_none (row_wrong rows texts k) g.refusal (sym (ap (λ (s : Sprout). s.refusal) v) ∙ e) in
      rw v (record { own = a; fit = inner.fit (k + 1) (cell_of rows k 3) z; twice = inner.twice (k + 1) (cell_of rows k 3) z ∙ sym (ap (λ t. t && doubled_below rows texts d (k + 1) (cell_of rows k 3)) (eq-eqb (cell_of rows k 0) 2 y)) })
  | no n ↦
      let v = value_plain rows texts d k n in
      let a = sym (ap (λ (s : Sprout). s.refusal) v) ∙ e in
      rw v (record { own = a; fit = plain_fits rows texts d k w (row_right rows texts k there a); twice = plain_once rows texts k ∙ sym (ap (λ t. t && doubled_below rows texts d (k + 1) (cell_of rows k 3)) (ne_eqb (cell_of rows k 0) 2 n)) })
]

key_kept : (rows texts : List ℕ) (k : ℕ) → Row rows texts k → (key_stored rows texts k ≡ true) × (key_at rows texts k ≡ key_of rows texts k ∷ [])
unfolding stored key_at keep
key_kept rows texts k r = let e = le-leb (cell_of rows k 1 + cell_of rows k 2) (length texts) r.key in (e, rw e)

or_last : (a b c : Bool) → (a || (b || c)) ≡ one_of (a ∷ b ∷ c ∷ [])
unfolding one_of
or_last true b c = refl
or_last false true c = refl
or_last false false true = refl
or_last false false false = refl

none_of : (rows texts : List ℕ) (d : ℕ) (keys : List (List ℕ)) (k : ℕ) → fits (map_at rows texts d k 0).map d × (twice_in keys (map_at rows texts d k 0).map ≡ doubled_in (doubled_below rows texts d) rows texts d keys 0 k)
unfolding entries_at fits twice_in doubled_in
none_of rows texts d keys k = (tt, refl)

entry_of : (rows texts : List ℕ) (d : ℕ) (keys : List (List ℕ)) (n k : ℕ) → 5 * k + 4 < length rows → Right rows texts d k (value_at (below rows texts d) rows texts k)
    → (g : Grown) → map_at rows texts d k (suc n) ≡ grown (key_of rows texts k) (value_at (below rows texts d) rows texts k) g
    → fits g.map d × (twice_in (keys ++ (key_of rows texts k ∷ [])) g.map ≡ doubled_in (doubled_below rows texts d) rows texts d (keys ++ (key_of rows texts k ∷ [])) n (after_at rows texts d k))
    → fits (map_at rows texts d k (suc n)).map d × (twice_in keys (map_at rows texts d k (suc n)).map ≡ doubled_in (doubled_below rows texts d) rows texts d keys (suc n) k)
unfolding fits twice_in
entry_of rows texts d keys n k l v g u rest =
    let r = row_right rows texts k l v.own in
    let (s, kept) = key_kept rows texts k r in
    let less : suc n - 1 ≡ n = omega arith in
    let step = doubled_step rows texts d k keys (suc n) (omega arith) l in
    let D : List (List ℕ) → ℕ → Bool = λ ks j. doubled_in (doubled_below rows texts d) rows texts d ks j (after_at rows texts d k) in
    let A = has keys (key_of rows texts k) in
    let B = eqb (cell_of rows k 0) 2 && doubled_below rows texts d (k + 1) (cell_of rows k 3) in (
      rw u (key_short rows texts k r, v.fit, rest.0),
      ap (λ (w : Grown). twice_in keys w.map) u
          ∙ ap₂ (λ (x y : Bool). A || (x || y)) v.twice rest.1
          ∙ or_last A B (D (keys ++ (key_of rows texts k ∷ [])) n)
          ∙ ap₂ (λ (ks : List (List ℕ)) (j : ℕ). one_of (A ∷ B ∷ D (keys ++ ks) j ∷ [])) (sym kept) (sym less)
          ∙ ap (λ t. one_of ((t && A) ∷ B ∷ D (keys ++ key_at rows texts k) (suc n - 1) ∷ [])) (sym s)
          ∙ sym step,
    )

entries_right : (rows texts : List ℕ) (d : ℕ) → Words rows → Inner rows texts d → (n k : ℕ) (keys : List (List ℕ)) → (map_at rows texts d k n).refusal ≡ 0
    → fits (map_at rows texts d k n).map d × (twice_in keys (map_at rows texts d k n).map ≡ doubled_in (doubled_below rows texts d) rows texts d keys n k)
entries_right rows texts d w inner zero k keys e = none_of rows texts d keys k
entries_right rows texts d w inner (suc n) k keys e =
    let l = row_there rows texts d k (suc n) (omega arith) e in
    let v = value_at (below rows texts d) rows texts k in
    let less : suc n - 1 ≡ n = omega arith in
    let u = unroll rows texts d k (suc n) v (omega arith) l refl ∙ ap (λ j. grown (key_of rows texts k) v (map_at rows texts d v.after j)) less in
    let (a, z) = worse_none v.refusal (map_at rows texts d v.after n).refusal (sym (ap (λ (g : Grown). g.refusal) u) ∙ e) in
    entry_of rows texts d keys n k l (value_right rows texts d k w inner l a) (map_at rows texts d v.after n) u (entries_right rows texts d w inner n v.after (keys ++ (key_of rows texts k ∷ [])) z)

none_inner : (rows texts : List ℕ) → Inner rows texts 0
unfolding below
none_inner rows texts = record { fit = λ k n e. absurd (omega (arith, e)); twice = λ k n e. absurd (omega (arith, e)) }

inner_of : (rows texts : List ℕ) (d : ℕ) → ((k n : ℕ) → (map_at rows texts d k n).refusal ≡ 0 → fits (map_at rows texts d k n).map d × (twice_in [] (map_at rows texts d k n).map ≡ doubled_at rows texts d k n)) → Inner rows texts (suc d)
unfolding below fits_value doubled_below
inner_of rows texts d all = record { fit = λ k n e. (all k n e).0; twice = λ k n e. (all k n e).1 }

below_fit : (rows texts : List ℕ) → Words rows → (d : ℕ) → Inner rows texts d
below_fit rows texts w zero = none_inner rows texts
below_fit rows texts w (suc d) = inner_of rows texts d (λ k n e. entries_right rows texts d w (below_fit rows texts w d) n k [] e)

pub rows_right : (rows texts : List ℕ) (d k n : ℕ) → Words rows → (map_at rows texts d k n).refusal ≡ 0
    → fits (map_at rows texts d k n).map d × (twice_in [] (map_at rows texts d k n).map ≡ doubled_at rows texts d k n)
rows_right rows texts d k n w e = entries_right rows texts d w (below_fit rows texts w d) n k [] e

-- The rows that the reader fills stand for the map that it read, with the body as their text store.
-- Assumes nothing.
use mathlib.Core.Path.{◌≡◌, refl, sym, ap, ap₂, ◌∙◌}
use mathlib.Core.List.{List, [], ◌∷◌, ◌++◌}
use Prim.Native.Nat.{ℕ, zero, suc, ◌+◌, ◌-◌, ◌*◌, ◌≤◌, ◌<◌}
use native.Mathlib.Nat.{add-zero}
use native.Mathlib.Omega.{arith}
use native.Mathlib.Decide.{ℕ_discrete}
use lib.ListN.{length, get_or}
use Rattle.wire.specs.Wire.{part}
use Rattle.map.specs.Map.{Value, text, number, map, Map, empty, entry, text_bytes, value_bytes, body_of, fits_value, fits}
use Rattle.map.specs.Rows.{cell_of, key_of, plain_of, value_wrong, row_wrong, worse, Grown, grown, value_at, entries_at, below, map_at}
use Rattle.map_reader.specs.Back.{count_of, kind_of, fourth_of, fifth_of, entry_row, inner_rows, map_rows, size_value, entry_count}
use Rattle.map_reader.proofs.Places.{Stands, first_is, second_is, part_is}
use Rattle.map_reader.proofs.Sizes.{length_inner}
use Rattle.map.proofs.Judging.{text_fine, wrong_text, wrong_none, row_as}
use Rattle.map.proofs.Laws.{worse_first}
use Rattle.map.proofs.Turns.{unroll}

moved : {b : List ℕ} {p q : ℕ} {xs rest : List ℕ} → p ≡ q → Stands b p xs rest → Stands b q xs rest
moved e s = rw e at s

-- the cells of a row
record Cells (rows : List ℕ) (k a b c d e : ℕ) : Type 0 where
  there : 5 * k + 4 < length rows
  kind : cell_of rows k 0 ≡ a
  key : cell_of rows k 1 ≡ b
  len : cell_of rows k 2 ≡ c
  fourth : cell_of rows k 3 ≡ d
  fifth : cell_of rows k 4 ≡ e

cells_of_lem : (rows : List ℕ) (k a b c d e : ℕ) (rest : List ℕ) → Stands rows (5 * k) (a ∷ b ∷ c ∷ d ∷ e ∷ []) rest → Cells rows k a b c d e
unfolding cell_of
cells_of_lem rows k a b c d e rest s =
    let (e0, l0, s1) = first_is a (b ∷ c ∷ d ∷ e ∷ []) s in
    let (e1, l1, s2) = first_is b (c ∷ d ∷ e ∷ []) s1 in
    let (e2, l2, s3) = first_is {p = 5 * k + 2} c (d ∷ e ∷ []) (moved (omega arith) s2) in
    let (e3, l3, s4) = first_is {p = 5 * k + 3} d (e ∷ []) (moved (omega arith) s3) in
    let (e4, l4, s5) = first_is {p = 5 * k + 4} e [] (moved (omega arith) s4) in
    record { there = l4; kind = ap (λ i. get_or rows i 0) (add-zero (5 * k)) ∙ e0; key = e1; len = e2; fourth = e3; fifth = e4 }

-- a text in the store
text_in : (b : List ℕ) (p : ℕ) (t rest : List ℕ) → Stands b p (text_bytes t) rest → (part b (p + 2) (length t) ≡ t) × (p + 2 + length t ≤ length b)
unfolding text_bytes
text_in b p t rest s =
    let (mark, in1, s1) = first_is 0x55 (length t ∷ t) s in
    let (len, in2, s2) = first_is (length t) t s1 in
    part_is {p = p + 2} t (moved (omega arith) s2)

-- the row of a value, with its key
module _ (rows b : List ℕ) (k key : ℕ) (t : List ℕ) (key-is : part b key (length t) ≡ t) (key_in : key + length t ≤ length b) (short : length t < 256) where
  key_of_lem : {a d e : ℕ} → Cells rows k a key (length t) d e → key_of rows b k ≡ t
  unfolding key_of
  key_of_lem c = rw (c.key, c.len) key-is

  right_is : {a d e : ℕ} → Cells rows k a key (length t) d e → a ≤ 2 → (a ≡ 0 → (d + e ≤ length b) × (e < 256)) → row_wrong rows b k ≡ 0
  right_is {a} {d} {e} c two has =
      sym (row_as rows b k (sym c.key) (sym c.len) (text_fine b key (length t) (omega arith) key_in) value (worse_first 0 0 refl))
    where
      value : 0 ≡ value_wrong rows b k
      value = elim (ℕ_discrete a 0) [
        | yes z ↦ let (fit, small) = has z in wrong_text rows b k (sym c.kind) z (sym c.fourth) (sym c.fifth) (text_fine b d e (omega arith) fit)
        | no n ↦ wrong_none rows b k (sym c.kind) n two
      ]

-- values
module _ (rows b : List ℕ) (d k key : ℕ) (t : List ℕ) (key-is : part b key (length t) ≡ t) (key_in : key + length t ≤ length b) (short : length t < 256) where
  stand_text : (u : List ℕ) (q : ℕ) (rest : List ℕ) → Cells rows k 0 key (length t) (q + 3) (length u) → length u < 256 → Stands b q (value_bytes (text u)) rest
      → value_at (below rows b d) rows b k ≡ record { value = text u; after = k + 1; refusal = 0 }
  unfolding value_at plain_of value_bytes
  stand_text u q rest c l s =
      let (mark, in1, s1) = first_is 0x53 (text_bytes u) s in
      let (same, fit) = text_in b (q + 1) u rest s1 in
      let three : q + 1 + 2 ≡ q + 3 = omega arith in
      let good = right_is rows b k key t key-is key_in short c (omega arith) (λ z. (omega arith, l)) in
      rw (c.kind, c.fourth, c.fifth, good, ← three, same)

  stand_number : (n q : ℕ) → Cells rows k 1 key (length t) n 0 → value_at (below rows b d) rows b k ≡ record { value = number n; after = k + 1; refusal = 0 }
  unfolding value_at plain_of
  stand_number n q c =
      let good = right_is rows b k key t key-is key_in short c (omega arith) (λ z. absurd (omega arith)) in
      rw (c.kind, c.fourth, good)

  stand_map : (m : Map) (n next : ℕ) → Cells rows k 2 key (length t) n 0 → below rows b d (k + 1) n ≡ record { map = m; next = next; refusal = 0 }
      → value_at (below rows b d) rows b k ≡ record { value = map m; after = next; refusal = 0 }
  unfolding value_at worse
  stand_map m n next c g =
      let good = right_is rows b k key t key-is key_in short c (omega arith) (λ z. absurd (omega arith)) in
      rw (c.kind, c.fourth, good, g)

entry_joined : (rows b : List ℕ) (d k n after next : ℕ) (t : List ℕ) (v : Value) (m : Map) → 5 * k + 4 < length rows → key_of rows b k ≡ t → value_at (below rows b d) rows b k ≡ record { value = v; after = after; refusal = 0 }
    → map_at rows b d after n ≡ record { map = m; next = next; refusal = 0 } → map_at rows b d k (1 + n) ≡ record { map = entry t v m; next = next; refusal = 0 }
entry_joined rows b d k n after next t v m l e f g =
    let one : 1 + n - 1 ≡ n = omega arith in
    unroll rows b d k (1 + n) _ (omega arith) l f
    ∙ ap (λ j. grown (key_of rows b k) (record { value = v; after = after; refusal = 0 }) (map_at rows b d after j)) one
    ∙ ap₂ (λ (key : List ℕ) (r : Grown). grown key (record { value = v; after = after; refusal = 0 }) r) e g
    ∙ ap (λ r. record { map = entry t v m; next = next; refusal = r }) (sym (worse_first 0 0 refl))

below_suc : (rows b : List ℕ) (d k n : ℕ) → below rows b (suc d) k n ≡ map_at rows b d k n
unfolding below
below_suc rows b d k n = refl

nothing_at : (rows b : List ℕ) (d k : ℕ) → map_at rows b d k 0 ≡ record { map = empty; next = k + 0; refusal = 0 }
unfolding entries_at
nothing_at rows b d k = ap (λ i. record { map = empty; next = i; refusal = 0 }) (sym (add-zero k))

-- the parts of a map's value in its body
inner_stands : (b : List ℕ) (q : ℕ) (m : Map) (rest : List ℕ) → Stands b q (value_bytes (map m)) rest → Stands b (q + 1) (body_of m) (0x7d ∷ rest)
unfolding value_bytes
inner_stands b q m rest s = let (mark, in1, s1) = first_is 0x7b (body_of m ++ (0x7d ∷ [])) s in (second_is (body_of m) (0x7d ∷ []) s1).0

mutual
  unfolding fits map_rows body_of entry_count count_of kind_of fourth_of fifth_of

  stand_value : (v : Value) (rows b : List ℕ) (d k key q : ℕ) (t rest after : List ℕ) → fits_value v d → part b key (length t) ≡ t → key + length t ≤ length b → length t < 256
      → Cells rows k (kind_of v) key (length t) (fourth_of v q) (fifth_of v) → Stands rows (5 * (k + 1)) (inner_rows v q) rest → Stands b q (value_bytes v) after
      → value_at (below rows b d) rows b k ≡ record { value = v; after = k + 1 + size_value v; refusal = 0 }
  stand_value (text u) rows b d k key q t rest after f is fit short c r s =
      stand_text rows b d k key t is fit short u q after c f s ∙ ap (λ i. record { value = text u; after = i; refusal = 0 }) (sym (add-zero (k + 1)))
  stand_value (number n) rows b d k key q t rest after f is fit short c r s =
      stand_number rows b d k key t is fit short n q c ∙ ap (λ i. record { value = number n; after = i; refusal = 0 }) (sym (add-zero (k + 1)))
  stand_value (map m) rows b zero k key q t rest after f is fit short c r s = absurd f
  stand_value (map m) rows b (suc d) k key q t rest after f is fit short c r s =
      stand_map rows b (suc d) k key t is fit short m (count_of m) (k + 1 + entry_count m) c
      (below_suc rows b d (k + 1) (count_of m) ∙ stand m rows b d (k + 1) (q + 1) rest (0x7d ∷ after) f r (inner_stands b q m after s))

  pub stand : (m : Map) (rows b : List ℕ) (d k p : ℕ) (rest after : List ℕ) → fits m d → Stands rows (5 * k) (map_rows m p) rest → Stands b p (body_of m) after
      → map_at rows b d k (count_of m) ≡ record { map = m; next = k + entry_count m; refusal = 0 }
  stand empty rows b d k p rest after f r s = nothing_at rows b d k
  stand (entry t v m) rows b d k p rest after f r s =
      let q = p + length (text_bytes t) in
      let z = q + length (value_bytes v) in
      let (s1, s2) = second_is (text_bytes t) (value_bytes v ++ body_of m) s in
      let (s3, s4) = second_is (value_bytes v) (body_of m) s2 in
      let (r1, r2) = second_is (entry_row (p + 2) (length t) v q) (inner_rows v q ++ map_rows m z) r in
      let (r3, r4) = second_is (inner_rows v q) (map_rows m z) r2 in
      let c = cells_of_lem rows k (kind_of v) (p + 2) (length t) (fourth_of v q) (fifth_of v) _ r1 in
      let (is, fit) = text_in b p t _ s1 in
      let five : 5 * k + 5 ≡ 5 * (k + 1) = omega arith in
      let far : 5 * k + 5 + length (inner_rows v q) ≡ 5 * (k + 1 + size_value v) = omega (arith, length_inner v q) in
      let sum : k + 1 + size_value v + entry_count m ≡ k + (1 + size_value v + entry_count m) = omega arith in
      entry_joined rows b d k (count_of m) (k + 1 + size_value v) (k + 1 + size_value v + entry_count m) t v m
      c.there (key_of_lem rows b k (p + 2) t is fit f.0 c)
      (stand_value v rows b d k (p + 2) q t (map_rows m z ++ rest) (body_of m ++ after) f.1 is fit f.0 c (moved five r3) s3)
      (stand m rows b d (k + 1 + size_value v) z rest after f.2 (moved far r4) s4)
      ∙ ap (λ i. record { map = entry t v m; next = i; refusal = 0 }) sum

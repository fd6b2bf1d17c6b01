-- There and back, from the calls: what `write_map` left is read by `read_body` as the same entries, and what `read_body` left is written as the same body.
-- Assumes nothing but that lent cells are numbers of 32 bits and lent bytes are bytes, as their types say.
use mathlib.Core.Path.{◌≡◌, refl, sym, ap, ◌∙◌}
use mathlib.Core.Bool.{Bool, true, false, cond}
use mathlib.Core.List.{List, [], ◌∷◌, append-nil}
use Prim.Native.Nat.{ℕ, zero, suc, ◌+◌, ◌*◌, ◌≤◌}
use native.Mathlib.Numerals.{sub-one}
use native.Mathlib.Omega.{arith}
use native.Mathlib.Decide.{ℕ_discrete}
use borrow.Author.Tests.{eq-eqb, ne_eqb}
use lib.Dec.{eqb, ltb}
use lib.ListN.{length, take, drop}
use lib.Seq.{take_at}
use Rattle.wire.specs.Wire.{splice, part}
use Rattle.wire.proofs.Laws.{splice_is}
use Rattle.format.specs.Refusal.{refuse, lowest}
use Rattle.map.specs.Map.{text, number, map, body_of}
use Rattle.map.specs.Rows.{cell_of, key_of, plain_of, row_wrong, Grown, Sprout, grown, value_at, entries_at, below, map_at}
use Rattle.map.specs.Write.{Written, lent_map, refusal_of, WriteMapOutcome}
use Rattle.map.proofs.Laws.{worse_none}
use Rattle.map.proofs.Outcomes.{accepted_of_lem}
use Rattle.map.proofs.Turns.{unroll, row_there, value_plain, value_nested, below_none, below_is}
use Rattle.map_reader.specs.Read.{Bytes, Seen}
use Rattle.map_reader.specs.Back.{count_of, size_value, entry_count, map_rows}
use Rattle.map_reader.specs.Answer.{MapRead, whole_map, read_refusal, read_place, ReadMapOutcome}
use Rattle.map_reader.proofs.Sizes.{length_rows}
use Rattle.law_map.specs.Terms.{Words, SameFront, extent}
use Rattle.law_map.proofs.Stand.{stand}
use Rattle.law_map.proofs.Begins.{none_begins}
use Rattle.law_map.proofs.Round.{taken_proper, written_read, taken_of, gives_taken, read_written}

-- how far the rows of a map with nothing wrong reach, and how many entries it has itself
record Sized (n k : ℕ) (g : Grown) : Type 0 where
  next : g.next ≡ k + entry_count g.map
  count : count_of g.map ≡ n

abbrev Inner : List ℕ → List ℕ → ℕ → Type 0
Inner rows texts d = (k n : ℕ) → (below rows texts d k n).refusal ≡ 0 → Sized n k (below rows texts d k n)

plain_size : (rows texts : List ℕ) (k : ℕ) → size_value (plain_of rows texts k) ≡ 0
unfolding plain_of size_value
plain_size rows texts k = go (eqb (cell_of rows k 0) 0)
  where
    go : (b : Bool) → size_value (cond b (text (part texts (cell_of rows k 3) (cell_of rows k 4))) (number (cell_of rows k 3))) ≡ 0
    go true = refl
    go false = refl

value_sized : (rows texts : List ℕ) (d k : ℕ) → Inner rows texts d → (value_at (below rows texts d) rows texts k).refusal ≡ 0
    → (value_at (below rows texts d) rows texts k).after ≡ k + 1 + size_value (value_at (below rows texts d) rows texts k).value
unfolding size_value
value_sized rows texts d k inner e = elim (ℕ_discrete (cell_of rows k 0) 2) [
  | yes y ↦
      let v = value_nested rows texts d k y in
      let g = below rows texts d (k + 1) (cell_of rows k 3) in
      let (a, z) = worse_none (row_wrong rows texts k) g.refusal (sym (ap (λ (s : Sprout). s.refusal) v) ∙ e) in
      rw v (inner (k + 1) (cell_of rows k 3) z).next
  | no n ↦ rw (value_plain rows texts d k n) (omega (arith, plain_size rows texts k))
]

none_sized : (rows texts : List ℕ) (d k : ℕ) → Sized 0 k (map_at rows texts d k 0)
unfolding entries_at entry_count count_of
none_sized rows texts d k = record { next = omega arith; count = refl }

entries_sized : (rows texts : List ℕ) (d : ℕ) → Inner rows texts d → (n k : ℕ) → (map_at rows texts d k n).refusal ≡ 0 → Sized n k (map_at rows texts d k n)
unfolding entry_count count_of
entries_sized rows texts d inner zero k e = none_sized rows texts d k
entries_sized rows texts d inner (suc n) k e =
    let v = value_at (below rows texts d) rows texts k in
    let same : map_at rows texts d k (suc n) ≡ grown (key_of rows texts k) v (map_at rows texts d v.after n) =
    unroll rows texts d k (suc n) v (omega arith) (row_there rows texts d k (suc n) (omega arith) e) refl ∙ ap (λ i. grown (key_of rows texts k) v (map_at rows texts d v.after i)) (sub-one (suc n)) in
    let (a, b) = worse_none v.refusal (map_at rows texts d v.after n).refusal (sym (ap (λ (g : Grown). g.refusal) same) ∙ e) in
    let first = value_sized rows texts d k inner a in
    let rest = entries_sized rows texts d inner n v.after b in
    rw same (record { next = omega (arith, rest.next, first); count = omega (arith, rest.count) })

below_sized : (rows texts : List ℕ) (d : ℕ) → Inner rows texts d
below_sized rows texts zero k n e = absurd (omega (arith, below_none rows texts 0 k n e))
below_sized rows texts (suc d) k n e =
    let is : below rows texts (suc d) k n ≡ map_at rows texts d k n = below_is rows texts (suc d) k n (omega arith) ∙ ap (λ i. map_at rows texts i k n) (sub-one (suc d)) in
    rw is (entries_sized rows texts d (below_sized rows texts d) n k (sym (ap (λ (g : Grown). g.refusal) is) ∙ e))

-- the first so many of what was stored over the front
front : (xs ys : List ℕ) (n : ℕ) → n ≡ length ys → length ys ≤ length xs → take n (splice xs 0 ys) ≡ ys
front xs ys n e h = ap (take n) (splice_is xs 0 ys (omega (arith, h))) ∙ take_at ys (drop (0 + length ys) xs) n (sym e)

-- what `write_map` gave: its first bytes, read back
module _ {before rows texts after : List ℕ} {count : ℕ} {w : Written} (words : Words rows) (o : WriteMapOutcome before rows texts count after w) (z : w.refusal ≡ 0) where
  not_refused : refusal_of rows texts count (length before) ≡ 0
  not_refused = sym o.refusal_is ∙ z

  -- the body stands in the output
  pub body_there : take w.len after ≡ body_of (lent_map rows texts count).map
  body_there =
      let a = accepted_of_lem rows texts count (length before) not_refused in
      let (n, s) = o.accepted z in
      ap (take w.len) s ∙ front before (body_of (lent_map rows texts count).map) w.len n a.fits

  -- read into a store with as many cells as were written from, it is taken, and its entries stand for the map that was written: as many, in the same order
  pub read_back_lem : {cells left : List ℕ} {r : MapRead} → ReadMapOutcome (take w.len after) cells left r → length rows ≤ length cells
      → (r.refusal ≡ 0) × (r.count ≡ count) × (5 * r.entries ≡ length rows)
      × (lent_map (take (5 * r.entries) left) (take w.len after) r.count ≡ record { map = (lent_map rows texts count).map; next = r.entries; refusal = 0 })
  read_back_lem {cells} {left} {r} q l =
      let a = accepted_of_lem rows texts count (length before) not_refused in
      let m = (lent_map rows texts count).map in
      let size = entries_sized rows texts 8 (below_sized rows texts 8) count 0 a.ok in
      let whole = a.whole in
      let five : 5 * entry_count m ≡ length rows = omega (arith, size.next, whole) in
      let seen = ap whole_map body_there ∙ written_read rows texts count (length before) words not_refused in
      let ok : r.refusal ≡ 0 = q.refusal_is ∙ ap (λ b. read_refusal b (length cells)) body_there ∙ gives_taken rows texts count (length before) (length cells) words not_refused (omega (arith, five, l)) in
      let (n, e, s) = q.accepted ok in
      let same : (whole_map (take w.len after)).map ≡ m = ap (λ (g : Seen). g.map) seen in
      let entries : r.entries ≡ entry_count m = e ∙ ap entry_count same in
      let stored : take (5 * r.entries) left ≡ map_rows m 0 =
      ap (take (5 * r.entries)) (s ∙ ap (λ k. splice cells 0 (map_rows k 0)) same) ∙ front cells (map_rows m 0) (5 * r.entries) (omega (arith, entries, length_rows m 0)) (omega (arith, five, l, length_rows m 0)) in
      let fit = (taken_proper rows texts count (length before) words not_refused).0.fit in
      let stands : lent_map (map_rows m 0) (body_of m) (count_of m) ≡ record { map = m; next = 0 + entry_count m; refusal = 0 } =
      stand m (map_rows m 0) (body_of m) 8 0 0 [] [] fit (record { place = omega arith; bytes = sym (append-nil (map_rows m 0)) }) (record { place = omega arith; bytes = sym (append-nil (body_of m)) }) in
      let number : r.count ≡ count_of m = n ∙ ap count_of same in
      let to : 0 + entry_count m ≡ r.entries = omega (arith, entries) in
      (ok, number ∙ size.count, omega (arith, entries, five), rw (stored, body_there, number) (stands ∙ ap (λ k. record { map = m; next = k; refusal = 0 }) to))

-- what `read_body` gave: the first rows of its store, written again
module _ {b cells left : List ℕ} {r : MapRead} (bytes : Bytes b) (o : ReadMapOutcome b cells left r) (z : r.refusal ≡ 0) where
  taken : read_refusal b (length cells) ≡ 0
  taken = sym o.refusal_is ∙ z

  -- the entries stand in the store
  pub entries_there : take (5 * r.entries) left ≡ map_rows (whole_map b).map 0
  entries_there =
      let t = taken_of b (length cells) taken in
      let (n, e, s) = o.accepted z in
      let m = (whole_map b).map in
      ap (take (5 * r.entries)) s ∙ front cells (map_rows m 0) (5 * r.entries) (omega (arith, e, length_rows m 0)) (omega (arith, t.fits, length_rows m 0))

  -- written with the body as their text store, into any output that it fits, they are the body
  pub written_again : {before after : List ℕ} {w : Written} → WriteMapOutcome before (take (5 * r.entries) left) b r.count after w → length b ≤ length before
      → (w.refusal ≡ 0) × (w.len ≡ length b) × (take w.len after ≡ b)
  written_again {before} {after} {w} q l =
      let (n, e, s) = o.accepted z in
      let (none, body) = read_written b (length cells) (length before) bytes taken l in
      let ok : w.refusal ≡ 0 = q.refusal_is ∙ rw (entries_there, n) none in
      let same : body_of (lent_map (take (5 * r.entries) left) b r.count).map ≡ b = rw (entries_there, n) body in
      let (k, t) = q.accepted ok in
      let len : w.len ≡ length b = k ∙ ap length same in
      (ok, len, ap (take w.len) (t ∙ ap (splice before 0) same) ∙ front before b w.len len l)

-- ---- the first wrong place, from the calls
low : (t u : Bool) → lowest (refuse 2 t ∷ refuse 12 u ∷ []) ≤ 12
unfolding lowest
low true u = omega arith
low false true = omega arith
low false false = omega arith

wrong_named : (b : List ℕ) (room : ℕ) → 20 ≤ read_refusal b room → (whole_map b).refusal ≡ 0 → ⊥
unfolding read_refusal
wrong_named b room l z =
    let n = low (ltb 65535 (length b)) (ltb room (5 * entry_count (whole_map b).map)) in
    let m = rw (eq-eqb (whole_map b).refusal 0 z) at l in
    absurd (omega (arith, n, m))

place_named : (b : List ℕ) → ((whole_map b).refusal ≡ 0 → ⊥) → read_place b ≡ (whole_map b).stop
unfolding read_place
place_named b n = rw (ne_eqb (whole_map b).refusal 0 n)

-- a body is refused by 20 to 23 at a place: no body that `write_map` gives begins with what stands up to and with that place
pub none_given : {b cells left before rows texts after : List ℕ} {count : ℕ} {r : MapRead} {w : Written} → Bytes b → ReadMapOutcome b cells left r → 20 ≤ r.refusal
    → Words rows → WriteMapOutcome before rows texts count after w → w.refusal ≡ 0 → SameFront b (take w.len after) (r.place + extent b r.place) → ⊥
none_given {b} {cells} {rows = rows} {texts = texts} {count = count} {r = r} bytes q l words o z a =
    let n = wrong_named b (length cells) (rw q.refusal_is at l) in
    let at : r.place ≡ (whole_map b).stop = q.place_is ∙ place_named b n in
    none_begins b (lent_map rows texts count).map bytes n (taken_proper rows texts count _ words (sym o.refusal_is ∙ z)).0 (rw (at, body_there words o z) at a)

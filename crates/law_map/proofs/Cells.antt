-- The cells of the entries that are read are numbers of 32 bits, since texts are short, numbers fit and the body has at most 65,535 bytes.
-- Assumes nothing.
use mathlib.Core.List.{List, [], ◌∷◌, ◌++◌}
use Prim.Native.Nat.{ℕ, zero, suc, ◌+◌, ◌^◌, ◌≤◌, ◌<◌}
use native.Mathlib.Omega.{arith}
use lib.Dec.{lit<}
use lib.ListN.{length}
use Rattle.map.specs.Map.{Value, text, number, map, Map, empty, entry, text_bytes, value_bytes, body_of, fits_value, fits}
use Rattle.map.proofs.Judging.{length_text, map_length, entry_length}
use Rattle.map_reader.specs.Back.{count_of, kind_of, fourth_of, fifth_of, entry_row, inner_rows, map_rows}
use Rattle.law_map.specs.Terms.{Words}

words_none : Words []
words_none i = lit< tt

words_five : (a b c d e : ℕ) → a < 2 ^ 32 → b < 2 ^ 32 → c < 2 ^ 32 → d < 2 ^ 32 → e < 2 ^ 32 → Words (a ∷ b ∷ c ∷ d ∷ e ∷ [])
words_five a b c d e h0 h1 h2 h3 h4 zero = h0
words_five a b c d e h0 h1 h2 h3 h4 (suc zero) = h1
words_five a b c d e h0 h1 h2 h3 h4 (suc (suc zero)) = h2
words_five a b c d e h0 h1 h2 h3 h4 (suc (suc (suc zero))) = h3
words_five a b c d e h0 h1 h2 h3 h4 (suc (suc (suc (suc zero)))) = h4
words_five a b c d e h0 h1 h2 h3 h4 (suc (suc (suc (suc (suc i))))) = lit< tt

words_append : (xs ys : List ℕ) → Words xs → Words ys → Words (xs ++ ys)
words_append [] ys a b i = b i
words_append (x ∷ xs) ys a b zero = a 0
words_append (x ∷ xs) ys a b (suc i) = words_append xs ys (λ j. a (suc j)) b i

-- a map has no more entries than its body has bytes
count_under : (m : Map) → count_of m ≤ length (body_of m)
unfolding count_of
count_under empty = omega arith
count_under (entry k v m) = omega (arith, count_under m, entry_length k v m)

kind_small : (v : Value) → kind_of v < 2 ^ 32
unfolding kind_of
kind_small (text t) = lit< tt
kind_small (number n) = lit< tt
kind_small (map m) = lit< tt

fourth_small : (v : Value) (d q : ℕ) → fits_value v d → q + length (value_bytes v) ≤ 65535 → fourth_of v q < 2 ^ 32
unfolding fourth_of fits_value value_bytes
fourth_small (text t) d q f h = omega (arith, length_text t)
fourth_small (number n) d q f h = f
fourth_small (map m) d q f h = let l : q + length (value_bytes (map m)) ≤ 65535 = h in omega (arith, count_under m, map_length m, l)

fifth_small : (v : Value) (d : ℕ) → fits_value v d → fifth_of v < 2 ^ 32
unfolding fifth_of fits_value
fifth_small (text t) d f = omega arith
fifth_small (number n) d f = lit< tt
fifth_small (map m) d f = lit< tt

mutual
  unfolding fits inner_rows

  inner_words : (v : Value) (d q : ℕ) → fits_value v d → q + length (value_bytes v) ≤ 65535 → Words (inner_rows v q)
  inner_words (text t) d q f h = words_none
  inner_words (number n) d q f h = words_none
  inner_words (map m) zero q f h = absurd f
  inner_words (map m) (suc d) q f h = rows_words m d (q + 1) f (omega (arith, map_length m, h))

  -- the rows of a map that fits, whose body ends within 65,535 bytes
  pub rows_words : (m : Map) (d p : ℕ) → fits m d → p + length (body_of m) ≤ 65535 → Words (map_rows m p)
  rows_words empty d p f h = words_none
  rows_words (entry k v m) d p f h =
      let q = p + length (text_bytes k) in
      let r = q + length (value_bytes v) in
      let to : r + length (body_of m) ≤ 65535 = omega (arith, entry_length k v m, length_text k, h) in
      words_append (entry_row (p + 2) (length k) v q) (inner_rows v q ++ map_rows m r)
      (words_five (kind_of v) (p + 2) (length k) (fourth_of v q) (fifth_of v)
      (kind_small v) (omega (arith, to, length_text k)) (omega (arith, f.0)) (fourth_small v d q f.1 (omega (arith, to))) (fifth_small v d f.1))
      (words_append (inner_rows v q) (map_rows m r) (inner_words v d q f.1 (omega (arith, to))) (rows_words m d r f.2 to))

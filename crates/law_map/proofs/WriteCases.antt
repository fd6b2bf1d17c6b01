-- Entries, computed: what the writer says of them, and their bodies.
-- Assumes nothing.
use Prim.Native.Nat.{ℕ, zero, suc}
use mathlib.Core.Path.{◌≡◌, refl}
use mathlib.Core.List.{List, [], ◌∷◌, ◌++◌, map}
use lib.ListN.{replicate}
use Rattle.wire.specs.Wire.{be, part, keep}
use Rattle.format.specs.Refusal.{lowest, one_of}
use Rattle.map.specs.Map.{same, has, text_bytes, value_bytes, body_of}
use Rattle.map.specs.Rows.{cell_of, key_of, plain_of, worse, stored, text_wrong, value_wrong, row_wrong, value_at, entries_at, below}
use Rattle.map.specs.Keys.{key_at, doubled_in, doubled_below}
use Rattle.map.specs.Write.{lent_map, refusal_of}

-- 300 letters a
store : List ℕ
store = replicate 300 0x61

-- a text, a number and a map whose key is that many of them
text_row : ℕ → ℕ → List ℕ
text_row k n = 0 ∷ 0 ∷ k ∷ 0 ∷ n ∷ []

number_row : ℕ → ℕ → List ℕ
number_row k n = 1 ∷ 0 ∷ k ∷ n ∷ 0 ∷ []

map_row : ℕ → ℕ → List ℕ
map_row k n = 2 ∷ 0 ∷ k ∷ n ∷ 0 ∷ []

-- maps inside each other, and rows in the innermost
wrapped : ℕ → ℕ → List ℕ → List ℕ
wrapped zero own rows = rows
wrapped (suc zero) own rows = map_row 1 own ++ rows
wrapped (suc (suc n)) own rows = map_row 1 1 ++ wrapped (suc n) own rows

refusals : List (List ℕ) → ℕ → List ℕ
refusals rs count = map (λ r. refusal_of r store count 1000) rs

-- one entry: an empty key, texts of 255, the least and the greatest number, eight maps deep; and no entries
taken : (refusals (text_row 0 0 ∷ text_row 255 255 ∷ number_row 1 0x80000000 ∷ number_row 1 0x7fffffff ∷ wrapped 8 0 [] ∷ wrapped 8 1 (number_row 1 7) ∷ []) 1 ≡ replicate 6 0) × (refusal_of [] [] 0 0 ≡ 0)
unfolding store text_row number_row map_row wrapped refusals be part keep lowest one_of same has text_bytes value_bytes body_of cell_of key_of plain_of worse stored text_wrong value_wrong row_wrong value_at entries_at below key_at doubled_in doubled_below refusal_of
taken = (refl, refl)

-- nine deep; a text and a key of 256; an unknown kind; a text and a key outside the store; a count too great, too small; a cell too many
refused : refusals (wrapped 9 0 [] ∷ text_row 1 256 ∷ number_row 256 0 ∷ (3 ∷ 0 ∷ 1 ∷ 0 ∷ 0 ∷ []) ∷ (0 ∷ 0 ∷ 1 ∷ 299 ∷ 2 ∷ []) ∷ (1 ∷ 300 ∷ 1 ∷ 0 ∷ 0 ∷ []) ∷ map_row 1 1 ∷ (number_row 1 0 ++ number_row 2 0) ∷ (number_row 1 0 ++ (0 ∷ [])) ∷ [] ∷ []) 1
    ≡ 20 ∷ 21 ∷ 21 ∷ 23 ∷ 23 ∷ 23 ∷ 23 ∷ 23 ∷ 23 ∷ 23 ∷ []
unfolding store text_row number_row map_row wrapped refusals be part keep lowest one_of same has text_bytes value_bytes body_of cell_of key_of plain_of worse stored text_wrong value_wrong row_wrong value_at entries_at below key_at doubled_in doubled_below refusal_of
refused = refl

-- a key twice in a map at each depth; the same key in two maps is taken
twice : (map (λ n. refusal_of (wrapped n 3 (number_row 1 0 ++ (number_row 2 0 ++ number_row 1 0))) store 1 1000) (1 ∷ 2 ∷ 3 ∷ 4 ∷ 5 ∷ 6 ∷ 7 ∷ 8 ∷ []) ≡ replicate 8 22)
    × (refusal_of (number_row 1 0 ++ (number_row 2 0 ++ number_row 1 0)) store 3 1000 ≡ 22)
    × (refusal_of (map_row 1 1 ++ (number_row 3 0 ++ (map_row 2 1 ++ number_row 3 0))) store 2 1000 ≡ 0)
unfolding store text_row number_row map_row wrapped refusals be part keep lowest one_of same has text_bytes value_bytes body_of cell_of key_of plain_of worse stored text_wrong value_wrong row_wrong value_at entries_at below key_at doubled_in doubled_below refusal_of
twice = (refl, refl, refl)

-- the lowest number that applies: 20 before 21 before 22 before 23, wherever they stand; keys outside the store take no part in 22
order : refusals ((number_row 256 0 ++ (number_row 1 0 ++ (number_row 1 0 ++ wrapped 9 0 []))) ∷ (number_row 1 0 ++ (number_row 1 0 ++ ((3 ∷ 0 ∷ 2 ∷ 0 ∷ 0 ∷ []) ++ number_row 256 0)))
    ∷ ((3 ∷ 0 ∷ 2 ∷ 0 ∷ 0 ∷ []) ++ (number_row 3 0 ++ (number_row 1 0 ++ number_row 1 0))) ∷ ((1 ∷ 300 ∷ 1 ∷ 0 ∷ 0 ∷ []) ++ ((1 ∷ 300 ∷ 1 ∷ 0 ∷ 0 ∷ []) ++ (number_row 1 0 ++ number_row 2 0))) ∷ []) 4
    ≡ 20 ∷ 21 ∷ 22 ∷ 23 ∷ []
unfolding store text_row number_row map_row wrapped refusals be part keep lowest one_of same has text_bytes value_bytes body_of cell_of key_of plain_of worse stored text_wrong value_wrong row_wrong value_at entries_at below key_at doubled_in doubled_below refusal_of
order = refl

-- the body of a map with all kinds of values; and an output one byte too short
all_kinds : List ℕ
all_kinds = map_row 1 2 ++ (text_row 1 1 ++ number_row 2 7)

body : (body_of (lent_map all_kinds store 1).map ≡ 0x55 ∷ 1 ∷ 0x61 ∷ 0x7b ∷ 0x55 ∷ 1 ∷ 0x61 ∷ 0x53 ∷ 0x55 ∷ 1 ∷ 0x61 ∷ 0x55 ∷ 2 ∷ 0x61 ∷ 0x61 ∷ 0x6c ∷ 0 ∷ 0 ∷ 0 ∷ 7 ∷ 0x7d ∷ [])
    × (map (refusal_of all_kinds store 1) (20 ∷ 21 ∷ []) ≡ 12 ∷ 0 ∷ [])
unfolding store text_row number_row map_row wrapped refusals all_kinds be part keep lowest one_of same has text_bytes value_bytes body_of cell_of key_of plain_of worse stored text_wrong value_wrong row_wrong value_at entries_at below key_at doubled_in doubled_below refusal_of
body = (refl, refl)

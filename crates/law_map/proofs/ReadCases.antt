-- Bodies, computed: what the reader says of each, and where it is wrong.
-- Assumes nothing.
use Prim.Native.Nat.{ℕ, zero, suc, ◌+◌}
use mathlib.Core.Path.{◌≡◌, refl}
use mathlib.Core.List.{List, [], ◌∷◌, ◌++◌, map}
use lib.ListN.{length, take, replicate}
use Rattle.wire.specs.Wire.{be, more, part}
use Rattle.format.specs.Refusal.{lowest, one_of}
use Rattle.map.specs.Map.{same, has, text_bytes, value_bytes, body_of}
use Rattle.map_reader.specs.Read.{text_stop, text_of, says, says_more, other_wrong, no_text_refusal, closed_map, value_in, key_wrong, map_entries_in, inside}
use Rattle.map_reader.specs.Back.{count_of, kind_of, fourth_of, fifth_of, map_rows, entry_count}
use Rattle.map_reader.specs.Answer.{whole_map, read_refusal, read_place}

-- the refusal, and the wrong place
verdict : List ℕ → List ℕ
verdict b = read_refusal b 1000 ∷ read_place b ∷ []

-- a key of one letter; an entry with the number 7; a map inside another, so many deep
key : ℕ → List ℕ
key c = 0x55 ∷ 1 ∷ c ∷ []

seven : ℕ → List ℕ
seven c = key c ++ (0x6c ∷ be 4 7)

wrapped : ℕ → List ℕ → List ℕ
wrapped zero b = b
wrapped (suc n) b = key 0x6b ++ (0x7b ∷ (wrapped n b ++ (0x7d ∷ [])))

-- no entries; an empty key with an empty text; a text of 255 bytes; the least and the greatest number; the same key in two maps; eight maps deep
taken : map verdict ([] ∷ (0x55 ∷ 0 ∷ 0x53 ∷ 0x55 ∷ 0 ∷ []) ∷ (key 0x61 ++ (0x53 ∷ 0x55 ∷ 255 ∷ replicate 255 0x78))
    ∷ (key 0x61 ++ (0x6c ∷ be 4 0x80000000)) ∷ (key 0x61 ++ (0x6c ∷ be 4 0x7fffffff))
    ∷ (key 0x61 ++ (0x7b ∷ (seven 0x63 ++ (0x7d ∷ (key 0x62 ++ (0x7b ∷ (seven 0x63 ++ (0x7d ∷ [])))))))) ∷ wrapped 8 [] ∷ wrapped 8 (seven 0x61) ∷ [])
    ≡ replicate 8 (0 ∷ 0 ∷ [])
unfolding verdict key seven wrapped be more part lowest one_of same has text_stop text_of says says_more other_wrong no_text_refusal closed_map value_in key_wrong map_entries_in inside entry_count whole_map read_refusal read_place
taken = refl

-- nine deep: at the ninth brace; a length of 256 by I, l and L, of a text and of a key: at the mark
deep_and_long : map verdict (wrapped 9 [] ∷ (key 0x61 ++ (0x53 ∷ 0x49 ∷ 1 ∷ 0 ∷ [])) ∷ (key 0x61 ++ (0x53 ∷ 0x6c ∷ be 4 256)) ∷ (key 0x61 ++ (0x53 ∷ 0x4c ∷ (be 4 0 ++ be 4 256)))
    ∷ (0x49 ∷ 1 ∷ 0 ∷ []) ∷ (0x6c ∷ be 4 256) ∷ (0x4c ∷ (be 4 1 ++ be 4 0)) ∷ [])
    ≡ (20 ∷ 35 ∷ []) ∷ (21 ∷ 4 ∷ []) ∷ (21 ∷ 4 ∷ []) ∷ (21 ∷ 4 ∷ []) ∷ (21 ∷ 0 ∷ []) ∷ (21 ∷ 0 ∷ []) ∷ (21 ∷ 0 ∷ []) ∷ []
unfolding verdict key seven wrapped be more part lowest one_of same has text_stop text_of says says_more other_wrong no_text_refusal closed_map value_in key_wrong map_entries_in inside entry_count whole_map read_refusal read_place
deep_and_long = refl

-- a key twice in a map at each depth: at the second
twice : map (λ n. verdict (wrapped n (seven 0x61 ++ (seven 0x62 ++ seven 0x61)))) (0 ∷ 1 ∷ 2 ∷ 3 ∷ 4 ∷ 5 ∷ 6 ∷ 7 ∷ 8 ∷ [])
    ≡ (22 ∷ 16 ∷ []) ∷ (22 ∷ 20 ∷ []) ∷ (22 ∷ 24 ∷ []) ∷ (22 ∷ 28 ∷ []) ∷ (22 ∷ 32 ∷ []) ∷ (22 ∷ 36 ∷ []) ∷ (22 ∷ 40 ∷ []) ∷ (22 ∷ 44 ∷ []) ∷ (22 ∷ 48 ∷ []) ∷ []
unfolding verdict key seven wrapped be more part lowest one_of same has text_stop text_of says says_more other_wrong no_text_refusal closed_map value_in key_wrong map_entries_in inside entry_count whole_map read_refusal read_place
twice = refl

-- other marks where a value, a text and a key should be: i, I, L, d, T, Z, [, $, #, N
marks : List ℕ
marks = 0x69 ∷ 0x49 ∷ 0x4c ∷ 0x64 ∷ 0x54 ∷ 0x5a ∷ 0x5b ∷ 0x24 ∷ 0x23 ∷ 0x4e ∷ []

other_marks : map (λ m. verdict (key 0x61 ++ (m ∷ be 4 0)) ∷ verdict (key 0x61 ++ (0x53 ∷ m ∷ be 4 0)) ∷ verdict (m ∷ be 4 0) ∷ []) marks
    ≡ replicate 10 ((23 ∷ 3 ∷ []) ∷ (23 ∷ 4 ∷ []) ∷ (23 ∷ 0 ∷ []) ∷ [])
unfolding verdict key seven wrapped marks be more part lowest one_of same has text_stop text_of says says_more other_wrong no_text_refusal closed_map value_in key_wrong map_entries_in inside entry_count whole_map read_refusal read_place
other_marks = refl

-- a length by another mark that is negative, or cut, or a brace too many
not_long : map verdict ((0x49 ∷ 0x80 ∷ 0 ∷ []) ∷ (0x6c ∷ be 4 0xffffffff) ∷ (0x49 ∷ 1 ∷ []) ∷ (0x4c ∷ (be 4 0 ++ (1 ∷ 0 ∷ []))) ∷ (seven 0x61 ++ (0x7d ∷ [])) ∷ [])
    ≡ (23 ∷ 0 ∷ []) ∷ (23 ∷ 0 ∷ []) ∷ (23 ∷ 0 ∷ []) ∷ (23 ∷ 0 ∷ []) ∷ (23 ∷ 8 ∷ []) ∷ []
unfolding verdict key seven wrapped be more part lowest one_of same has text_stop text_of says says_more other_wrong no_text_refusal closed_map value_in key_wrong map_entries_in inside entry_count whole_map read_refusal read_place
not_long = refl

-- the first wrong place decides: a text too long before a key twice, and the other way round
first_wrong : map verdict ((seven 0x61 ++ (key 0x62 ++ (0x53 ∷ 0x49 ∷ 1 ∷ 0 ∷ seven 0x61))) ∷ (seven 0x61 ++ (seven 0x61 ++ (key 0x62 ++ (0x53 ∷ 0x49 ∷ 1 ∷ 0 ∷ [])))) ∷ [])
    ≡ (21 ∷ 12 ∷ []) ∷ (22 ∷ 8 ∷ []) ∷ []
unfolding verdict key seven wrapped be more part lowest one_of same has text_stop text_of says says_more other_wrong no_text_refusal closed_map value_in key_wrong map_entries_in inside entry_count whole_map read_refusal read_place
first_wrong = refl

-- a map with all kinds of values, cut after every byte: 23, but for nothing at all
all_kinds : List ℕ
all_kinds = key 0x61 ++ (0x7b ∷ (key 0x62 ++ (0x53 ∷ (key 0x63 ++ (seven 0x64 ++ (0x7d ∷ []))))))

cuts : ℕ → List ℕ → List ℕ
cuts zero b = []
cuts (suc n) b = read_refusal (take n b) 1000 ∷ cuts n b

every_cut : cuts (length all_kinds + 1) all_kinds ≡ 0 ∷ (replicate 19 23 ++ (0 ∷ []))
unfolding verdict key seven wrapped all_kinds cuts be more part lowest one_of same has text_stop text_of says says_more other_wrong no_text_refusal closed_map value_in key_wrong map_entries_in inside entry_count whole_map read_refusal read_place
every_cut = refl

-- its rows, with its texts where they stand in the body; and a store one cell too short
rows : (map_rows (whole_map all_kinds).map 0 ≡ 2 ∷ 2 ∷ 1 ∷ 2 ∷ 0 ∷ 0 ∷ 6 ∷ 1 ∷ 10 ∷ 1 ∷ 1 ∷ 13 ∷ 1 ∷ 7 ∷ 0 ∷ []) × (map (read_refusal all_kinds) (14 ∷ 15 ∷ []) ≡ 12 ∷ 0 ∷ [])
unfolding verdict key seven wrapped all_kinds be more part lowest one_of same has text_stop text_of says says_more other_wrong no_text_refusal closed_map value_in key_wrong map_entries_in inside entry_count count_of kind_of fourth_of fifth_of map_rows text_bytes value_bytes body_of whole_map read_refusal read_place
rows = (refl, refl)

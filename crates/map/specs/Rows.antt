-- Rows that stand for a map: five cells an entry, the entries of a map's value right behind its own row.
-- Assumes nothing.
use Rattle.std.specs.Prelude.{ℕ, zero, suc, ◌+◌, ◌*◌, Bool, cond, not, List, [], ◌∷◌, eqb, leb, ltb, length, get_or}
use Rattle.wire.specs.Wire.{part}
use Rattle.format.specs.Refusal.{refuse, lowest}
use Rattle.map.specs.Map.{Value, text, number, map, Map, empty, entry}

-- kind (0 text, 1 number, 2 map), where the key stands and its length, then where a text stands and its length, a number's bits, or how many entries a map has itself
unfoldable pub cell_of : List ℕ → ℕ → ℕ → ℕ
cell_of rows k j = get_or rows (5 * k + j) 0

-- row k is there
abbrev pub there : List ℕ → ℕ → Bool
there rows k = ltb (5 * k + 4) (length rows)

unfoldable pub key_of : List ℕ → List ℕ → ℕ → List ℕ
key_of rows texts k = part texts (cell_of rows k 1) (cell_of rows k 2)

-- the value of a row that is no map's
unfoldable pub plain_of : List ℕ → List ℕ → ℕ → Value
plain_of rows texts k = cond (eqb (cell_of rows k 0) 0) (text (part texts (cell_of rows k 3) (cell_of rows k 4))) (number (cell_of rows k 3))

-- the lower of two refusals; 0 is none
unfoldable pub worse : ℕ → ℕ → ℕ
worse a b = cond (eqb a 0) b (cond (eqb b 0) a (cond (ltb b a) b a))

-- the store has this text
unfoldable pub stored : List ℕ → ℕ → ℕ → Bool
stored texts at len = leb (at + len) (length texts)

-- what is wrong with a text: it is too long, or the store does not have it
unfoldable pub text_wrong : List ℕ → ℕ → ℕ → ℕ
text_wrong texts at len = lowest (refuse 21 (ltb 255 len) ∷ refuse 23 (not (stored texts at len)) ∷ [])

-- what is wrong with the value of row k by itself: its text, its kind; and with the row, its key too
unfoldable pub value_wrong : List ℕ → List ℕ → ℕ → ℕ
value_wrong rows texts k = cond (eqb (cell_of rows k 0) 0) (text_wrong texts (cell_of rows k 3) (cell_of rows k 4)) (cond (leb (cell_of rows k 0) 2) 0 23)

unfoldable pub row_wrong : List ℕ → List ℕ → ℕ → ℕ
row_wrong rows texts k = worse (text_wrong texts (cell_of rows k 1) (cell_of rows k 2)) (value_wrong rows texts k)

-- what rows stand for: the map, the row after its last, and the lowest refusal of all its rows
pub record Grown : Type 0 where
  pub map : Map
  pub next : ℕ
  pub refusal : ℕ

-- what maps inside are: from a row on, so many entries
abbrev pub Deeper : Type 0
Deeper = ℕ → ℕ → Grown

-- the value of row k, the row after it, and the lowest refusal
pub record Sprout : Type 0 where
  pub value : Value
  pub after : ℕ
  pub refusal : ℕ

-- of a row that is no map's; and of one whose map is g
abbrev pub plain_at : List ℕ → List ℕ → ℕ → Sprout
plain_at rows texts k = record { value = plain_of rows texts k; after = k + 1; refusal = row_wrong rows texts k }

abbrev pub nested_at : List ℕ → List ℕ → ℕ → Grown → Sprout
nested_at rows texts k g = record { value = map g.map; after = g.next; refusal = worse (row_wrong rows texts k) g.refusal }

unfoldable pub value_at : Deeper → List ℕ → List ℕ → ℕ → Sprout
value_at deeper rows texts k =
    cond (eqb (cell_of rows k 0) 2) (nested_at rows texts k (deeper (k + 1) (cell_of rows k 3))) (plain_at rows texts k)

-- an entry more
abbrev pub grown : List ℕ → Sprout → Grown → Grown
grown key v rest = record { map = entry key v.value rest.map; next = rest.next; refusal = worse v.refusal rest.refusal }

-- n entries, whose rows begin at k; rows that are not there are no map
unfoldable pub entries_at : Deeper → List ℕ → List ℕ → ℕ → ℕ → Grown
entries_at deeper rows texts zero k = record { map = empty; next = k; refusal = 0 }
entries_at deeper rows texts (suc n) k =
    let v = value_at deeper rows texts k in
    cond (there rows k) (grown (key_of rows texts k) v (entries_at deeper rows texts n v.after)) (record { map = empty; next = k; refusal = 23 })

-- the maps inside a map that may nest d deep: with none left, one more is too deep
unfoldable pub below : List ℕ → List ℕ → ℕ → Deeper
below rows texts zero = λ k n. record { map = empty; next = k; refusal = 20 }
below rows texts (suc d) = λ k n. entries_at (below rows texts d) rows texts n k

-- the map of n entries whose rows begin at k, and which may nest d deep
abbrev pub map_at : List ℕ → List ℕ → ℕ → ℕ → ℕ → Grown
map_at rows texts d k n = entries_at (below rows texts d) rows texts n k

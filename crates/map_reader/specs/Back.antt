-- The rows of a map whose body stands in a text store: its entries in their order.
-- Assumes nothing.
use Rattle.std.specs.Prelude.{ℕ, ◌+◌, List, [], ◌∷◌, ◌++◌, length}
use Rattle.map.specs.Map.{Value, text, number, map, Map, empty, entry, text_bytes, value_bytes}

-- how many entries a map has itself
unfoldable pub count_of : Map → ℕ
count_of empty = 0
count_of (entry k v m) = 1 + count_of m

unfoldable pub kind_of : Value → ℕ
kind_of (text t) = 0
kind_of (number n) = 1
kind_of (map m) = 2

-- of a value that stands at q: where its text stands, its number, or how many entries it has; and a text's length
unfoldable pub fourth_of : Value → ℕ → ℕ
fourth_of (text t) q = q + 3
fourth_of (number n) q = n
fourth_of (map m) q = count_of m

unfoldable pub fifth_of : Value → ℕ
fifth_of (text t) = length t
fifth_of (number n) = 0
fifth_of (map m) = 0

-- the row of an entry whose key stands at `key`, and whose value stands at q
abbrev pub entry_row : ℕ → ℕ → Value → ℕ → List ℕ
entry_row key len v q = kind_of v ∷ key ∷ len ∷ fourth_of v q ∷ fifth_of v ∷ []

-- the rows of a value's entries, where it is a map; and of a map's entries, whose body stands at p
unfoldable mutual
  pub inner_rows : Value → ℕ → List ℕ
  inner_rows (text t) q = []
  inner_rows (number n) q = []
  inner_rows (map m) q = map_rows m (q + 1)

  pub map_rows : Map → ℕ → List ℕ
  map_rows empty p = []
  map_rows (entry k v m) p =
      let q = p + length (text_bytes k) in
      entry_row (p + 2) (length k) v q ++ (inner_rows v q ++ map_rows m (q + length (value_bytes v)))

-- how many entries a map has in all, those of maps inside it too
unfoldable mutual
  pub size_value : Value → ℕ
  size_value (text t) = 0
  size_value (number n) = 0
  size_value (map m) = entry_count m

  pub entry_count : Map → ℕ
  entry_count empty = 0
  entry_count (entry k v m) = 1 + size_value v + entry_count m

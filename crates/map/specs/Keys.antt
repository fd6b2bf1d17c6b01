-- A key that stands twice in a map, looked for in rows as far as their counts reach.
-- Assumes nothing.
use Rattle.std.specs.Prelude.{ℕ, zero, suc, ◌+◌, Bool, false, cond, ◌&&◌, List, [], ◌∷◌, ◌++◌, eqb}
use Rattle.wire.specs.Wire.{keep}
use Rattle.format.specs.Refusal.{one_of}
use Rattle.map.specs.Map.{has}
use Rattle.map.specs.Rows.{cell_of, key_of, stored, there, value_at, below}

-- the store has the key of row k; and that key, if so
abbrev pub key_stored : List ℕ → List ℕ → ℕ → Bool
key_stored rows texts k = stored texts (cell_of rows k 1) (cell_of rows k 2)

unfoldable pub key_at : List ℕ → List ℕ → ℕ → List (List ℕ)
key_at rows texts k = keep (key_stored rows texts k) (key_of rows texts k ∷ [])

-- the row after that of an entry and all inside it
abbrev pub after_at : List ℕ → List ℕ → ℕ → ℕ → ℕ
after_at rows texts d k = (value_at (below rows texts d) rows texts k).after

-- n entries from row k on, behind entries with these keys: one of them repeats a key, or has a key twice inside
unfoldable pub doubled_in : (ℕ → ℕ → Bool) → List ℕ → List ℕ → ℕ → List (List ℕ) → ℕ → ℕ → Bool
doubled_in inner rows texts d keys zero k = false
doubled_in inner rows texts d keys (suc n) k =
    cond (there rows k)
    (one_of ((key_stored rows texts k && has keys (key_of rows texts k))
    ∷ (eqb (cell_of rows k 0) 2 && inner (k + 1) (cell_of rows k 3))
    ∷ doubled_in inner rows texts d (keys ++ key_at rows texts k) n (after_at rows texts d k)
    ∷ []))
    false

-- the maps inside a map that may nest d deep
unfoldable pub doubled_below : List ℕ → List ℕ → ℕ → ℕ → ℕ → Bool
doubled_below rows texts zero = λ k n. false
doubled_below rows texts (suc d) = λ k n. doubled_in (doubled_below rows texts d) rows texts d [] n k

abbrev pub doubled_at : List ℕ → List ℕ → ℕ → ℕ → ℕ → Bool
doubled_at rows texts d k n = doubled_in (doubled_below rows texts d) rows texts d [] n k

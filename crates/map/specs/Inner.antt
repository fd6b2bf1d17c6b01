-- What the writer's functions promise each other.
-- Assumes nothing.
use Rattle.std.specs.Prelude.{ℕ, Option, Some, None, zero, suc, ◌+◌, ◌*◌, ◌<◌, Bool, cond, ◌&&◌, List, [], ◌++◌, ◌≡◌, eqb, ltb, length}
use Rattle.format.specs.Refused.{number_of}
use Rattle.format.specs.declared.refusal.Refusal.{Refusal}
use Rattle.map.specs.Map.{has}
use Rattle.map.specs.Rows.{row_wrong, there, key_of}
use Rattle.map.specs.Keys.{key_stored, key_at, after_at}

-- a refusal's number; 0 is none
abbrev pub number_if : Option Refusal → ℕ
number_if None = 0
number_if (Some r) = number_of r

-- a row is there, and nothing is wrong with it by itself
unfoldable pub inside : List ℕ → List ℕ → ℕ → Bool
inside rows texts k = there rows k && eqb (row_wrong rows texts k) 0

-- a length, told up to 65,536
unfoldable pub cap_of : ℕ → ℕ
cap_of n = cond (ltb 65535 n) 65536 n

-- n entries of one map lead from row q to row k
unfoldable pub Run : List ℕ → List ℕ → ℕ → ℕ → ℕ → ℕ → Type 0
Run rows texts d q zero k = q ≡ k
Run rows texts d q (suc n) k = (5 * q + 4 < length rows) × (q < k) × Run rows texts d (after_at rows texts d q) n k

-- the keys of n entries of one map from row q on
unfoldable pub keys_from : List ℕ → List ℕ → ℕ → ℕ → ℕ → List (List ℕ)
keys_from rows texts d zero q = []
keys_from rows texts d (suc n) q = key_at rows texts q ++ keys_from rows texts d n (after_at rows texts d q)

-- whether row k repeats a stored key of the entries of its map from row i up to it
pub record Repeats (rows texts : List ℕ) (d i k : ℕ) (r : Bool) : Type 0 where
  pub is : (n : ℕ) → Run rows texts d i n k → r ≡ (key_stored rows texts k && has (keys_from rows texts d n i) (key_of rows texts k))

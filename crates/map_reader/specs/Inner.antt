-- What the reader's functions promise each other.
-- Assumes nothing.
use Rattle.std.specs.Prelude.{ℕ, Result, Ok, Err, zero, suc, ◌<◌, ◌≤◌, Bool, List, [], ◌∷◌, ◌≡◌, length}
use Rattle.format.specs.Refused.{number_of}
use Rattle.map.specs.Map.{has}
use Rattle.map_reader.specs.Read.{text_stop, text_of, value_read_at, map_read_at}
use Rattle.map_reader.specs.Back.{entry_count}
use Rattle.map_reader.specs.declared.read.Read.{Read}
use Rattle.map_reader.specs.declared.read.WrongAt.{WrongAt}

-- an answer's numbers: a refusal and the wrong place; or 0, the place after what was read, and how many entries it has
pub record ReadNumbers : Type 0 where
  pub refusal : ℕ
  pub stop : ℕ
  pub entries : ℕ

abbrev pub read_numbers : Result Read WrongAt → ReadNumbers
read_numbers (Ok r) = record { refusal = 0; stop = r.stop; entries = r.entries }
read_numbers (Err w) = record { refusal = number_of w.refusal; stop = w.place; entries = 0 }

-- n entries of one map lead from place q to place p
unfoldable pub Run : List ℕ → ℕ → ℕ → ℕ → ℕ → Type 0
Run b d q zero p = q ≡ p
Run b d q (suc n) p = (text_stop b q ≡ 0 → ⊥) × ((value_read_at b d (text_stop b q)).refusal ≡ 0) × (q < p) × Run b d (value_read_at b d (text_stop b q)).stop n p

-- the keys of n entries of one map from place q on
unfoldable pub keys_from : List ℕ → ℕ → ℕ → ℕ → List (List ℕ)
keys_from b d zero q = []
keys_from b d (suc n) q = text_of b q ∷ keys_from b d n (value_read_at b d (text_stop b q)).stop

-- entries lead from q to p
pub record Ran (b : List ℕ) (d q p : ℕ) : Type 0 where
  pub n : ℕ
  pub run : Run b d q n p

-- whether the key at p is one of those from `at` up to it
pub record Repeated (b : List ℕ) (d at p : ℕ) (r : Bool) : Type 0 where
  pub is : (n : ℕ) → Run b d at n p → r ≡ has (keys_from b d n at) (text_of b p)

-- a whole body was read: its map, and how many entries that has in all
pub record Whole (b : List ℕ) (entries : ℕ) : Type 0 where
  pub ok : (map_read_at b 8 0).refusal ≡ 0
  pub ends : (map_read_at b 8 0).stop ≡ length b
  pub few : entries ≤ length b
  pub many : entries ≡ entry_count (map_read_at b 8 0).map

-- What functions promise each other of rows that follow each other in a store, read from records at places that a table has.
-- Assumes nothing.
use Rattle.std.specs.Prelude.{ℕ, zero, suc, ◌+◌, ◌≤◌, ◌<◌, List, ◌≡◌, length, get_or, drop}
use Rattle.record.specs.Record.{read_back}

-- the cells of n rows: row t from the bytes `off` behind the place that the table has at i + t
unfoldable pub rows_at : List ℕ → List ℕ → List ℕ → ℕ → ℕ → ℕ → List ℕ → ℕ → ℕ → List ℕ
rows_at ws file places i off zero cells stride row = cells
rows_at ws file places i off (suc n) cells stride row =
    read_back ws (drop (get_or places (i + n) 0 + off) file) (rows_at ws file places i off n cells stride row) stride (row + n)

-- n bytes stand at each of the eight places
abbrev pub Reach : List ℕ → List ℕ → ℕ → ℕ → Type 0
Reach file places i n = (t : ℕ) → t < 8 → get_or places (i + t) 0 + n ≤ length file

-- the eight places that the table has from i on, by themselves
pub record Eight (places : List ℕ) (i : ℕ) (at : List ℕ) : Type 0 where
  pub long : length at ≡ 8
  pub each : (t : ℕ) → t < 8 → get_or at t 0 ≡ get_or places (i + t) 0

-- What the functions promise each other: rows of bytes in a store, and a cell of a row.
-- Assumes nothing.
use Rattle.std.specs.Prelude.{ℕ, ◌+◌, List, [], ◌∷◌, get_or, take, drop}
use Rattle.wire.specs.Wire.{number}
use Rattle.layout.specs.Columns.{sum}
use Rattle.record.specs.Record.{read_back}

-- rows of bytes into a store, from a row on
unfoldable pub into : List ℕ → ℕ → List (List ℕ) → List ℕ → ℕ → List ℕ
into ws stride [] cells row = cells
into ws stride (b ∷ bs) cells row = into ws stride bs (read_back ws b cells stride row) (row + 1)

-- the number of column c of a row of bytes: at its width, behind the columns before it
unfoldable pub column : List ℕ → List ℕ → ℕ → ℕ
column ws b c = number (take (get_or ws c 0) (drop (sum (take c ws)) b))

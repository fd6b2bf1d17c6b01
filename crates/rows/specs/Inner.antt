-- What the functions ask of each other: cells that their columns' widths hold.
-- Assumes nothing.
use Rattle.std.specs.Prelude.{ℕ, ◌^◌, ◌<◌, List, map, get_or}
use Rattle.layout.specs.Columns.{columns_of}
use Rattle.layout.specs.declared.columns.Column.{Column}
use Rattle.layout.specs.declared.columns.Family.{Family}

-- the width of a family's k-th column, 0 where it has no such column
unfoldable pub width_at : Family → ℕ → ℕ
width_at family k = get_or (map (λ (c : Column). c.width) (columns_of family)) k 0

-- no cell exceeds its column's width
abbrev pub Within : Family → List ℕ → Type 0
Within family raw = (k : ℕ) → get_or raw k 0 < 256 ^ width_at family k

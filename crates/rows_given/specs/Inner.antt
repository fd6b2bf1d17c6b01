-- What the functions promise each other: the low bytes of cells, within their columns' widths.
-- Assumes nothing.
use Rattle.std.specs.Prelude.{ℕ, ◌%◌, ◌^◌, ◌≡◌, cond, List, ltb, eqb, get_or}
use Rattle.wire.specs.Wire.{tabulate}
use Rattle.format.specs.declared.version.Version.{Version}
use Rattle.layout.specs.declared.columns.Family.{Family}
use Rattle.rows.specs.Inner.{width_at, Within}
use Rattle.rows_given.specs.Given.{given_cells}

-- the cells of a record, and that they are within their columns' widths
pub record KeptCells (family : Family) (v : Version) (cells raw : List ℕ) : Type 0 where
  pub is : raw ≡ given_cells family v cells
  pub within : Within family raw

-- the low bytes of a cell by its column's width, without a remainder where the width is a whole cell's
abbrev pub low_of : ℕ → ℕ → ℕ
low_of width cell = cond (eqb width 0) 0 (cond (ltb width 4) (cell % 256 ^ width) cell)

unfoldable pub narrowed : Family → List ℕ → List ℕ
narrowed family raw = tabulate 32 (λ k. low_of (width_at family k) (get_or raw k 0))

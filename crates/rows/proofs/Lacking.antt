-- A column that a version lacks is 0 in its record, and one that it has is its cell: for every family, version and column.
-- Assumes nothing.
use mathlib.Core.Path.{◌≡◌}
use mathlib.Core.Bool.{Bool, true, false}
use Prim.Native.Nat.{ℕ, ◌<◌}
use lib.ListN.{length, get_or}
use Rattle.format.specs.Version.{gte_of}
use Rattle.format.specs.declared.version.Version.{Version}
use Rattle.layout.specs.Columns.{col, columns_of, widths_of}
use Rattle.layout.specs.declared.columns.Column.{Column}
use Rattle.layout.specs.declared.columns.Family.{Family}
use Rattle.layout.proofs.Laws.{few_widths}
use Rattle.layout.proofs.Prefix.{rule, before_lacking, before_had}
use Rattle.rows.specs.Cells.{first_cells}
use Rattle.rows.proofs.Records.{first_in, first_out}

-- a version has a column
abbrev has : Version → Column → Bool
has v c = gte_of v c.major c.minor

module _ (f : Family) (v : Version) (cell : ℕ → ℕ) (k : ℕ) (h : k < length (columns_of f)) where
  pub lacking : has v (get_or (columns_of f) k (col 0 0 0)) ≡ false → get_or (first_cells cell (length (widths_of f v))) k 0 ≡ 0
  lacking e = first_out cell (length (widths_of f v)) k (before_lacking v (columns_of f) (rule f) k h e)

  pub had : has v (get_or (columns_of f) k (col 0 0 0)) ≡ true → get_or (first_cells cell (length (widths_of f v))) k 0 ≡ cell k
  had e = first_in cell (length (widths_of f v)) k (before_had v (columns_of f) (rule f) k h e) (few_widths f v)

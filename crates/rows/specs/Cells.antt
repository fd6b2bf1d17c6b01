-- One record's cells out of a family's store.
-- Assumes nothing.
use Rattle.std.specs.Prelude.{ℕ, ◌+◌, ◌*◌, cond, List, ltb, length, get_or}
use Rattle.wire.specs.Wire.{tabulate}
use Rattle.format.specs.declared.version.Version.{Version}
use Rattle.layout.specs.Columns.{widths_of}
use Rattle.layout.specs.declared.columns.Family.{Family}

-- the first n of these cells, then zeros: 32 of them, which is as many as a record ever had
unfoldable pub first_cells : (ℕ → ℕ) → ℕ → List ℕ
first_cells cell n = tabulate 32 (λ k. cond (ltb k n) (cell k) 0)

-- the cells of a row of a block of so many columns, in column order
abbrev pub block_cells : List ℕ → ℕ → ℕ → ℕ → ℕ → List ℕ
block_cells cells rows columns block row = first_cells (λ k. get_or cells ((block * columns + k) * rows + row) 0) columns

-- a record's cells: those of the columns that the version has, by the one table, and 0 in every other column
abbrev pub row_cells : Family → Version → List ℕ → ℕ → ℕ → ℕ → List ℕ
row_cells family v cells rows block row = block_cells cells rows (length (widths_of family v)) block row

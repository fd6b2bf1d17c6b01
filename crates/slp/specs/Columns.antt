-- How many columns a store has, and what each of them is.
-- Assumes nothing.
use Rattle.std.specs.Prelude.{ℕ, cond, ltb, length}
use Rattle.format.specs.declared.version.Version.{Version}
use Rattle.layout.specs.Columns.{widths_of}
use Rattle.rows_run.specs.Run.{family_at}
use Rattle.names.specs.Names.{no_column, described}
use Rattle.names.specs.declared.columns.Described.{Described}

-- how many columns a family's store has; the families are numbered by their stores
abbrev pub store_columns : Version → ℕ → ℕ
store_columns v family = cond (ltb 7 family) 0 (length (widths_of (family_at family) v))

-- column n of a family's store
abbrev pub store_column : ℕ → ℕ → Described
store_column family n = cond (ltb 7 family) no_column (described (family_at family) n)

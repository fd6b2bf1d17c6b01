-- The cells of a record, by the one table of columns, and whether a player is in a frame.
-- Assumes nothing.
use Rattle.std.specs.Prelude.{ℕ, cond, List, get_or}
use Rattle.layout.specs.declared.columns.Family.{Family}
use Rattle.game.specs.Frames.{rows_of, no_slot, slots_of}
use Rattle.game.specs.declared.frames.Frames.{Frames}
use Rattle.players.specs.Presence.{present_at}
use Rattle.rows.specs.Cells.{row_cells}

-- the record of a row of a block of a family's store: 0 in the columns that the version lacks
abbrev pub cells_at : Frames → Family → List ℕ → ℕ → ℕ → List ℕ
cells_at f family cells block row = row_cells family f.version cells (rows_of f family) block row

-- a player's mark: 1 where the presence bit says that the slot's player is in the frame, and 0 where it is absent
unfoldable pub mark_at : Frames → List ℕ → ℕ → ℕ → ℕ
mark_at f bits slot index = cond (present_at bits (get_or (slots_of f) slot no_slot) index) 1 0

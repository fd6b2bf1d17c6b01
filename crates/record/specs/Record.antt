-- A frame record: its head and its cells as bytes, and a row of cells read back from bytes.
-- A store holds columns one after another; the cell of the next column stands `stride` cells further on.
-- Assumes nothing.
use Rattle.std.specs.Prelude.{ℕ, ◌+◌, List, [], ◌∷◌, ◌++◌, get_or, set, take, drop}
use Rattle.wire.specs.Wire.{be, number, keep}
use Rattle.format.specs.File.{Ev}
use Rattle.record.specs.declared.Head.{Head}

-- the cells of one row as bytes: each column's cell at its width, from index i on
unfoldable pub cells_bytes : List ℕ → List ℕ → ℕ → ℕ → List ℕ
cells_bytes [] cells stride i = []
cells_bytes (w ∷ ws) cells stride i = be w (get_or cells i 0) ++ cells_bytes ws cells stride (i + stride)

-- port and follower, for a player's record
abbrev pub player_bytes : Head → List ℕ
player_bytes h = keep h.player (h.port ∷ h.follower ∷ [])

-- a record is an event: frame id, player, then the cells
abbrev pub record_of : Head → List ℕ → List ℕ → ℕ → ℕ → Ev
record_of h ws cells stride i = record {
  code = h.code;
  payload = be 4 h.id ++ (player_bytes h ++ cells_bytes ws cells stride i);
}

-- the store with one row read back from bytes: each column's cell is the number at its width
unfoldable pub read_back : List ℕ → List ℕ → List ℕ → ℕ → ℕ → List ℕ
read_back [] bytes cells stride i = cells
read_back (w ∷ ws) bytes cells stride i = read_back ws (drop w bytes) (set cells i (number (take w bytes))) stride (i + stride)

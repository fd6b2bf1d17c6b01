-- What the functions ask and promise each other: a head's bytes, a row's cells that are in their store, and cells that fit their widths.
-- Assumes nothing.
use Rattle.std.specs.Prelude.{ℕ, ◌+◌, ◌^◌, ◌≤◌, ◌<◌, List, [], ◌∷◌, ◌++◌, get_or}
use Rattle.wire.specs.Wire.{be}
use Rattle.record.specs.Record.{player_bytes}
use Rattle.record.specs.declared.Head.{Head}

-- code, frame id and player
unfoldable pub head_bytes : Head → List ℕ
head_bytes h = h.code ∷ (be 4 h.id ++ player_bytes h)

-- each column is at most four bytes wide, and its cell, from index i on, is in a store of len cells
unfoldable pub InStore : List ℕ → ℕ → ℕ → ℕ → Type 0
InStore [] len stride i = Unit {0}
InStore (w ∷ ws) len stride i = (w ≤ 4) × (i < len) × (stride ≤ len) × InStore ws len stride (i + stride)

-- each cell of a row fits its column's width
unfoldable pub Fit : List ℕ → List ℕ → ℕ → ℕ → Type 0
Fit [] cells stride i = Unit {0}
Fit (w ∷ ws) cells stride i = (get_or cells i 0 < 256 ^ w) × Fit ws cells stride (i + stride)

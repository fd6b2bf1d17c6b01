-- When a row is refused: 1 to 7 as a game is, then 13.
-- Assumes nothing.
use Rattle.std.specs.Prelude.{ℕ, Bool, ◌||◌, List, [], ◌∷◌, ◌++◌, leb}
use Rattle.format.specs.Refusal.{Refusal, refuse, lowest}
use Rattle.layout.specs.declared.columns.Family.{Family}
use Rattle.game.specs.Frames.{rows_of, slot_blocks}
use Rattle.game.specs.Stores.{Lent}
use Rattle.frames.specs.Judge.{refusals}
use Rattle.game.specs.declared.frames.Frames.{Frames}

-- 13: a block not below the family's blocks, which are the slots of Pre and Post, or a row not below its rows
unfoldable pub outside : Frames → Family → ℕ → ℕ → Bool
outside f family block row = leb (slot_blocks f family) block || leb (rows_of f family) row

-- neither codes nor metadata are given with a row
abbrev pub row_refusals : Frames → Lent → Family → ℕ → ℕ → List Refusal
row_refusals f s family block row = refusals f s 0 0 ++ (refuse 13 (outside f family block row) ∷ [])

unfoldable pub row_refusal : Frames → Lent → Family → ℕ → ℕ → ℕ
row_refusal f s family block row = lowest (row_refusals f s family block row)

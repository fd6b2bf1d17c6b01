-- What the functions ask and promise each other.
-- Assumes nothing.
use Rattle.std.specs.Prelude.{ℕ, ◌+◌, ◌*◌, ◌^◌, ◌≤◌, ◌<◌, ◌≡◌, false, cond, List, [], ◌∷◌, ◌++◌, ltb, length, get_or}
use Rattle.wire.specs.Wire.{ranged}
use Rattle.format.specs.Refusal.{refuse, lowest}
use Rattle.layout.specs.declared.columns.Family.{Family}
use Rattle.game.specs.Frames.{rows_of, slot_blocks}
use Rattle.game.specs.declared.frames.Frames.{Frames}
use Rattle.frames.specs.Inner.{Stored}
use Rattle.players.specs.Inner.{Modest}
use Rattle.players.specs.Presence.{marked, ports_uneven}
use Rattle.transpose.specs.Answers.{unless_refused}
use Rattle.rows_run.specs.Run.{no_run, family_at, run_length}

-- n cells, the first at index first, each next one a step further
unfoldable pub strided : List ℕ → ℕ → ℕ → ℕ → List ℕ
strided cells first step n = ranged (λ k. get_or cells (first + k * step) 0 ∷ []) 0 n

-- they are there
pub record Strides (cells : List ℕ) (first step n : ℕ) : Type 0 where
  pub each : (k : ℕ) → k < n → first + k * step < length cells
  pub far : first + n * step < 2 ^ 64

-- the rows from a on and before b of a block that begins at index first, with nothing behind their cells, or with a mark
unfoldable pub plain_row : List ℕ → ℕ → ℕ → ℕ → ℕ → List ℕ
plain_row cells first rows n i = strided cells (first + i) rows n

unfoldable pub player_row : List ℕ → List ℕ → ℕ → ℕ → ℕ → ℕ → ℕ → ℕ → List ℕ
player_row cells presence first rows n at len i = strided cells (first + i) rows n ++ (cond (marked presence at len i) 1 0 ∷ [])

-- a family's store and presence that were judged, a slot, and a range of its rows
pub record Running (f : Frames) (family : Family) (cells : List ℕ) (slot a b : ℕ) : Type 0 where
  pub store : Stored f family cells
  pub modest : Modest f
  pub even : ports_uneven f ≡ false
  pub slot_in : slot < slot_blocks f family
  pub range : a ≤ b
  pub inside : b ≤ rows_of f family

-- the number of a refusal, or of the run's
unfoldable pub run_refused : ℕ → Frames → ℕ → ℕ → ℕ → ℕ → ℕ → ℕ
run_refused n f number slot a b room =
    unless_refused n (lowest (refuse 13 (no_run f number slot a b) ∷ refuse 12 (ltb room (run_length f (family_at number) a b)) ∷ [])) n

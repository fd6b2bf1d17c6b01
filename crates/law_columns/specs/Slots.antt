-- The slots that are read back: who is ever there, and a leader beside a follower.
-- Assumes nothing.
use Rattle.std.specs.Prelude.{ℕ, ◌+◌, ◌/◌, ◌%◌, Bool, cond, ◌||◌, List, [], ◌∷◌, eqb}
use Rattle.wire.specs.Wire.{ranged, keep}
use Rattle.game.specs.Frames.{Slot, slot}
use Rattle.grammar.specs.Productions.{Frame}
use Rattle.columns.specs.Columns.{ever_in}

-- slot k is there: its player ever is, or it is a leader's, and the follower ever is
unfoldable pub seated : ℕ → List Frame → Bool
seated k fs = cond (eqb (k % 2) 0) (ever_in k fs || ever_in (k + 1) fs) (ever_in k fs)

-- the numbers of the slots that are there, ascending
unfoldable pub slot_numbers : List Frame → List ℕ
slot_numbers fs = ranged (λ k. keep (seated k fs) (k ∷ [])) 0 8

-- slots of these numbers, each with len presence bytes, one after another from index at on
unfoldable pub spaced : ℕ → ℕ → List ℕ → List Slot
spaced len at [] = []
spaced len at (k ∷ ks) = slot (k / 2) (k % 2) at len ∷ spaced len (at + len) ks

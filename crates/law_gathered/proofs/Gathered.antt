-- The rows of a run that are gathered.
-- Assumes nothing.
use mathlib.Core.List.{List, [], ◌∷◌}
use Prim.Native.Nat.{ℕ}
use Rattle.wire.specs.Wire.{ranged}

-- the rows from a on, n of them
unfoldable pub rows_from : ℕ → ℕ → List ℕ
rows_from a n = ranged (λ i. i ∷ []) a n

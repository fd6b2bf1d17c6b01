-- What functions that patch a block promise each other.
-- Assumes nothing.
use Rattle.std.specs.Prelude.{ℕ, ◌+◌, ◌≤◌, ◌≡◌, List, [], ◌∷◌}
use Rattle.wire.specs.Wire.{be}
use Rattle.patch.specs.Patch.{Patch, patch, patched}

-- the block was patched
pub record Patched (before after : List ℕ) (ps : List Patch) : Type 0 where
  pub after_is : after ≡ patched before ps

-- a table of numbers: the w low bytes of v at offset at + o, for each o, w and v of the three lists
unfoldable pub number_patches : ℕ → List ℕ → List ℕ → List ℕ → List Patch
number_patches at [] ws vs = []
number_patches at (o ∷ os) [] vs = []
number_patches at (o ∷ os) (w ∷ ws) [] = []
number_patches at (o ∷ os) (w ∷ ws) (v ∷ vs) = patch (at + o) (be w v) ∷ number_patches at os ws vs

-- such a table is whole, its numbers have four bytes at most, and they lie in a block of n bytes
unfoldable pub Fit : ℕ → ℕ → List ℕ → List ℕ → List ℕ → Type 0
Fit n at [] ws vs = Unit {0}
Fit n at (o ∷ os) [] vs = ⊥
Fit n at (o ∷ os) (w ∷ ws) [] = ⊥
Fit n at (o ∷ os) (w ∷ ws) (v ∷ vs) = (w ≤ 4) × (at + o + w ≤ n) × Fit n at os ws vs

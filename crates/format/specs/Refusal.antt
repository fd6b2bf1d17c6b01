-- Refusals: numbers with their tests, in the order in which they are judged.
-- Assumes nothing.
use Rattle.std.specs.Prelude.{ℕ, Bool, false, cond, ◌||◌, List, [], ◌∷◌}

-- a refusal: its number, and the test of what it is given for
pub record Refusal : Type 0 where
  pub number : ℕ
  pub applies : Bool

abbrev pub refuse : ℕ → Bool → Refusal
refuse number applies = record { number = number; applies = applies }

-- the number of the first that applies; 0 where none does
unfoldable pub lowest : List Refusal → ℕ
lowest [] = 0
lowest (r ∷ rs) = cond r.applies r.number (lowest rs)

-- one of the tests holds
unfoldable pub one_of : List Bool → Bool
one_of [] = false
one_of (b ∷ bs) = b || one_of bs

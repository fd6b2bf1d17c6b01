-- The events of a walk that end before a cut.
-- Assumes nothing.
use Rattle.std.specs.Prelude.{ℕ, ◌+◌, cond, List, [], ◌∷◌, ◌++◌, ◌≡◌, eqb, leb}
use Rattle.format.specs.Event.{code_of}
use Rattle.format.specs.declared.event.Event.TheVariants.{FrameStart}
use Rattle.head.specs.declared.Step.{Step}
use Rattle.head.specs.declared.Step.TheVariants.{Event, Ends, Cut, Refused}

-- where an event ends
abbrev pub next_of : Step → ℕ
next_of (Event code at payload len next) = next
next_of Ends = 0
next_of Cut = 0
next_of (Refused number offset) = 0

-- the first events, all of which end within k bytes
unfoldable pub ending_within : ℕ → List Step → List Step
ending_within k [] = []
ending_within k (s ∷ ss) = cond (leb (next_of s) k) (s ∷ ending_within k ss) []

-- 1 for a FrameStart
abbrev pub starts : Step → ℕ
starts (Event code at payload len next) = cond (eqb code (code_of FrameStart)) 1 0
starts Ends = 0
starts Cut = 0
starts (Refused number offset) = 0

-- how many of all these events are FrameStarts that end within k bytes
unfoldable pub starts_within : ℕ → List Step → ℕ
starts_within k [] = 0
starts_within k (s ∷ ss) = cond (leb (next_of s) k) (starts s) 0 + starts_within k ss

-- xs is a beginning of ys
pub record Begins {A : Type 0} (xs ys : List A) : Type 0 where
  pub rest : List A
  pub is : ys ≡ xs ++ rest

-- The walk of a whole file: one step after another, from the table's end on.
-- Assumes nothing.
use Rattle.std.specs.Prelude.{ℕ, zero, suc, ◌-◌, true, false, List, [], ◌∷◌, length}
use Rattle.head.specs.Table.{stop_of, table_of, first_place}
use Rattle.head.specs.Step.{step_of}
use Rattle.head.specs.declared.Step.{Step}
use Rattle.head.specs.declared.Step.TheVariants.{Event, Ends, Cut, Refused}
use Rattle.de.specs.declared.Walked.{Walked}
use Rattle.de.specs.declared.Walked.TheVariants as walked

-- the events that steps find one after another, the place where they stop, and what stands there
pub record Run : Type 0 where
  pub seen : List Step
  pub place : ℕ
  pub last : Step

abbrev pub after : Step → Run → Run
after s r = record { seen = s ∷ r.seen; place = r.place; last = r.last }

-- a step at a place: an event goes on at its next place, anything else stops here
abbrev pub turn : Step → (ℕ → Run) → ℕ → Run
turn (Event code at payload len next) go place = after (Event code at payload len next) (go next)
turn Ends go place = record { seen = []; place = place; last = Ends }
turn Cut go place = record { seen = []; place = place; last = Cut }
turn (Refused number offset) go place = record { seen = []; place = place; last = Refused number offset }

-- the steps from a place on, with at most n events
unfoldable pub run : ℕ → List ℕ → ℕ → Run
run zero f place = record { seen = []; place = place; last = step_of f place }
run (suc n) f place = turn (step_of f place) (run n f) place

-- an event takes at least a byte, so there are no more of them than bytes
abbrev pub run_of : List ℕ → Run
run_of f = run (length f) f (first_place (table_of f))

-- what the walk answers where it stopped, in event data that ends at stop; it does not stop at an event
abbrev pub answer_at : ℕ → ℕ → ℕ → Step → Walked
answer_at stop events place Ends = walked.Done events 0 true place
answer_at stop events place Cut = walked.Done events (stop - place) false place
answer_at stop events place (Refused number offset) = walked.Refused number offset
answer_at stop events place (Event code at payload len next) = walked.Done events (stop - place) false place

unfoldable pub walk_of : List ℕ → Walked
walk_of f = answer_at (stop_of f) (length (run_of f).seen) (run_of f).place (run_of f).last

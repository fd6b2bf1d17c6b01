-- One step of the reader: what stands at a place of a file.
-- Assumes nothing.
use Rattle.std.specs.Prelude.{ℕ, ◌+◌, ◌-◌, Bool, cond, ◌||◌, List, eqb, leb, ltb, get_or}
use Rattle.head.specs.Table.{stop_of, all_present, table_of, first_place, span_of, head_refusal, head_offset}
use Rattle.head.specs.declared.Step.{Step}
use Rattle.head.specs.declared.Step.TheVariants.{Event, Ends, Cut, Refused}

-- Event data ends at stop: its declared end where it is whole, else a cut. At a place stands a code, whose events take `span` bytes.

-- inside the event data: 16 if the code is not in the table; an event, if all its bytes are there
unfoldable pub event_in : ℕ → Bool → ℕ → ℕ → ℕ → Step
event_in stop whole place code span =
    cond (eqb span 0) (Refused 16 place)
    (cond (leb (place + span) stop) (Event code place (place + 1) (span - 1) (place + span))
    (cond whole (Refused 17 place) Cut))

-- at any place: 17 before the first event and past the event data
unfoldable pub step_in : ℕ → ℕ → Bool → ℕ → ℕ → ℕ → Step
step_in first stop whole place code span =
    cond (ltb place first || ltb stop place) (Refused 17 place)
    (cond (eqb place stop) (cond whole Ends Cut) (event_in stop whole place code span))

-- what stands at any place of any file
unfoldable pub step_of : List ℕ → ℕ → Step
step_of f place =
    cond (eqb (head_refusal f) 0)
    (step_in (first_place (table_of f)) (stop_of f) (all_present f) place (get_or f place 0) (span_of (get_or f place 0) (table_of f)))
    (Refused (head_refusal f) (head_offset (head_refusal f)))

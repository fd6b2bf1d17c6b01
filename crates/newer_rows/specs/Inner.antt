-- What functions promise each other of events that bring the stores nothing that are no player's: players' events, and unknown ones.
-- Assumes nothing.
use Rattle.std.specs.Prelude.{ℕ, ◌≤◌, ◌<◌, ◌≡◌, Bool, true, ◌||◌, List, eqb, get_or}
use Rattle.newer_events.specs.Some.{SomeCovers}
use Rattle.newer_places.specs.Known.{SomeKnown, LeftIn}
use Rattle.read_event.specs.Parts.{RowPlan, Rowing, go_rows}
use Rattle.read_event.specs.declared.spans.Spans.{Spans}

-- the code of an event that has a row in one of these stores
unfoldable pub is_row : ℕ → Bool
is_row code = eqb code 0x3A || (eqb code 0x3B || (eqb code 0x3C || (eqb code 0x3F || (eqb code 0x40 || eqb code 0x41))))

-- the events from a place to another bring nothing, and behind them stands one that does, or none
pub record Passed (file spans : List ℕ) (at stop e : ℕ) : Type 0 where
  pub forward : at ≤ e
  pub covers : SomeCovers file spans e stop
  pub row : e < stop → is_row (get_or file e 0) ≡ true
  pub some : (z : Spans) → SomeKnown z file spans at stop → SomeKnown z file spans e stop
  pub leads : (z : Spans) (q : RowPlan) → q.has_start ≡ true → (x all : Rowing) → LeftIn (go_rows q) z file spans at stop x all → LeftIn (go_rows q) z file spans e stop x all

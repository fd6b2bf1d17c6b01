-- What functions promise each other of players' events that begin no frame: they bring the stores that are no player's nothing.
-- Assumes nothing.
use Rattle.std.specs.Prelude.{ℕ, ◌≤◌, ◌≡◌, Bool, List}
use Rattle.read_event.specs.Parts.{SomeBy, LeftBy, Rows, RowPlan, RowSpans, Rowing, rowing, go_rows}
use Rattle.read_event.specs.declared.seen.Open.{Open}
use Rattle.read_event.specs.declared.seen.Seen.{Seen}
use Rattle.read_event.specs.declared.spans.Spans.{Spans}

-- the events from a place to another bring nothing, where a frame began last that is known
pub record Nothing (z : Spans) (start : Bool) (o : Open) (file : List ℕ) (at stop e : ℕ) : Type 0 where
  pub forward : at ≤ e
  pub some : SomeBy z file e stop
  pub leads : (q : RowPlan) → RowSpans z q → q.has_start ≡ start → (s : Seen) → s.opened ≡ o → (w : Rows) (all : Rowing) → LeftBy (go_rows q) z file at stop (rowing s w) all
      → LeftBy (go_rows q) z file e stop (rowing s w) all

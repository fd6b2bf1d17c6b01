-- What functions promise each other of players' events by a table of their places, as read_places has it, where the frames stand among unknown events and
-- have the file's own sizes.
-- Assumes nothing.
use Rattle.std.specs.Prelude.{ℕ, ◌+◌, ◌%◌, ◌≤◌, ◌<◌, ◌≡◌, Bool, true, ◌||◌, List, eqb, length, get_or}
use Rattle.grammar.specs.WellFormed.{Each}
use Rattle.newer_events.specs.Some.{SomeCovers}
use Rattle.read_event.specs.Parts.{WholeBy, Seats, Seating, SeatSpans, Seated, seated_as, go_seats}
use Rattle.read_event.specs.declared.seen.Open.{Open}
use Rattle.read_event.specs.declared.spans.Spans.{Spans}
use Rattle.read_places.specs.Inner.{is_players, frame_at, frames_at}
use Rattle.read_places.specs.declared.scan.Scan.{Scan}
use Rattle.read_places.specs.declared.scan.Batch.{Batch}
use Rattle.newer_places.specs.Known.{SomeKnown, LeftIn}

-- the code of an event that is a player's or begins a frame
unfoldable pub is_seat : ℕ → Bool
is_seat code = is_players code || eqb code 0x3A

-- the events from a place to another bring players nothing, and behind them stands one that may, or none
pub record Passed (file spans : List ℕ) (at stop e : ℕ) : Type 0 where
  pub forward : at ≤ e
  pub covers : SomeCovers file spans e stop
  pub seat : e < stop → is_seat (get_or file e 0) ≡ true
  pub some : (z : Spans) → SomeKnown z file spans at stop → SomeKnown z file spans e stop
  pub leads : (z : Spans) (q : Seating) (x all : Seated) → LeftIn (go_seats true q) z file spans at stop x all → LeftIn (go_seats true q) z file spans e stop x all

-- at a place an event stands that is a player's or begins a frame, or none
pub record Stood (z : Spans) (file spans : List ℕ) (at stop : ℕ) : Type 0 where
  pub some : SomeKnown z file spans at stop
  pub seat : at < stop → is_seat (get_or file at 0) ≡ true

-- the event at a place begins no frame, and the table has room
pub record Stays (file : List ℕ) (e stop j : ℕ) : Type 0 where
  pub before : e < stop
  pub few : j < 16
  pub inside : get_or file e 0 ≡ 0x3A → ⊥

-- what is left after the events up to a place, where it was what stands here before them
abbrev pub Leads : Spans → ℕ → List ℕ → List ℕ → ℕ → ℕ → Open → ℕ → Open → (Seating → Seats → Seats) → Type 0
Leads z frames file spans at stop o next opened put =
    (q : Seating) → SeatSpans z q → q.rows ≡ frames → (x : Seats) (all : Seated) → LeftIn (go_seats true q) z file spans at stop (seated_as o x) all
    → LeftIn (go_seats true q) z file spans next stop (seated_as opened (put q x)) all

-- the players' events of one frame, from its first event on, into column t of the table
pub record Scanned (z : Spans) (frames : ℕ) (file spans : List ℕ) (at stop : ℕ) (o : Open) (t : ℕ) (before after : List ℕ) (r : Scan) : Type 0 where
  pub whole : Each (WholeBy z file) after
  pub same : length after ≡ length before
  pub others : (k : ℕ) → (k % 8 ≡ t → ⊥) → get_or after k 0 ≡ get_or before k 0
  pub stood : Stood z file spans r.next stop
  pub forward : at < r.next
  pub few : r.count ≤ 16
  pub bound : r.opened.frames ≤ frames
  pub leads : Leads z frames file spans at stop o r.next r.opened (λ q x. frame_at q file after t r.count r.opened.frames x)

-- the same of several frames
pub record Batched (z : Spans) (frames : ℕ) (file spans : List ℕ) (at stop : ℕ) (o : Open) (after : List ℕ) (r : Batch) : Type 0 where
  pub whole : Each (WholeBy z file) after
  pub stood : Stood z file spans r.next stop
  pub forward : at < r.next
  pub few : r.count ≤ 16
  pub many : r.many ≤ 8
  pub bound : r.first + r.many ≤ frames + 1
  pub begun : r.opened.frames ≤ frames
  pub leads : Leads z frames file spans at stop o r.next r.opened (λ q x. frames_at q file after r.count r.many r.first x)

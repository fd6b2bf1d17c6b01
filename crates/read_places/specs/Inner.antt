-- What functions promise each other of players' events by a table of their places: eight frames stand beside each other, the places of one event of
-- each of them follow each other, and the next event's are the next eight.
-- Assumes nothing.
use Rattle.std.specs.Prelude.{ℕ, zero, suc, ◌+◌, ◌*◌, ◌%◌, ◌≤◌, ◌<◌, ◌≡◌, Bool, true, false, ◌||◌, List, eqb, length, get_or}
use Rattle.grammar.specs.WellFormed.{Each}
use Rattle.read_event.specs.Inner.{told_at}
use Rattle.read_event.specs.Alike.{Ahead}
use Rattle.read_event.specs.Parts.{SomeBy, WholeBy, LeftBy, first_by, Seats, Seating, SeatSpans, seat_told, Seated, seated_as, go_seats}
use Rattle.read_event.specs.declared.seen.Open.{Open}
use Rattle.read_event.specs.declared.spans.Spans.{Spans}
use Rattle.read_places.specs.declared.scan.Scan.{Scan}
use Rattle.read_places.specs.declared.scan.Batch.{Batch}

-- the code of a Pre or a Post
unfoldable pub is_players : ℕ → Bool
is_players code = eqb code 0x37 || eqb code 0x38

-- ---- events by their places

-- the event at a place into the players' stores, where n frames began
abbrev pub seat : Seating → List ℕ → ℕ → ℕ → Seats → Seats
seat q file n at r = seat_told q n (told_at file at) r

-- `count` events of frame t of the table, one after another
unfoldable pub frame_at : Seating → List ℕ → List ℕ → ℕ → ℕ → ℕ → Seats → Seats
frame_at q file places t zero n r = r
frame_at q file places t (suc j) n r = seat q file n (get_or places (j * 8 + t) 0) (frame_at q file places t j n r)

-- so many events of each of m frames, frame after frame, the first of which is the n-th
unfoldable pub frames_at : Seating → List ℕ → List ℕ → ℕ → ℕ → ℕ → Seats → Seats
frames_at q file places count zero n r = r
frames_at q file places count (suc m) n r = frame_at q file places m count (n + m) (frames_at q file places count m n r)

-- ---- what is found of them

abbrev pub open_of : ℕ → ℕ → Open
open_of frames id = record { frames = frames; id = id }

-- what is left after the events up to a place, where it was what stands here before them
abbrev pub Leads : Spans → Bool → ℕ → List ℕ → ℕ → ℕ → Open → ℕ → Open → (Seating → Seats → Seats) → Type 0
Leads z start frames file at stop o next opened put =
    (q : Seating) → SeatSpans z q → q.rows ≡ frames → (x : Seats) (all : Seated) → LeftBy (go_seats start q) z file at stop (seated_as o x) all
    → LeftBy (go_seats start q) z file next stop (seated_as opened (put q x)) all

-- the players' events of one frame, from its first event on, into column t of the table
pub record Scanned (z : Spans) (start : Bool) (frames : ℕ) (file : List ℕ) (at stop : ℕ) (o : Open) (t : ℕ) (before after : List ℕ) (r : Scan) : Type 0 where
  pub whole : Each (WholeBy z file) after
  pub same : length after ≡ length before
  pub others : (k : ℕ) → (k % 8 ≡ t → ⊥) → get_or after k 0 ≡ get_or before k 0
  pub some : SomeBy z file r.next stop
  pub forward : at < r.next
  pub few : r.count ≤ 16
  pub bound : r.opened.frames ≤ frames
  pub leads : Leads z start frames file at stop o r.next r.opened (λ q x. frame_at q file after t r.count r.opened.frames x)

-- the same of several frames
pub record Batched (z : Spans) (start : Bool) (frames : ℕ) (file : List ℕ) (at stop : ℕ) (o : Open) (after : List ℕ) (r : Batch) : Type 0 where
  pub whole : Each (WholeBy z file) after
  pub some : SomeBy z file r.next stop
  pub forward : at < r.next
  pub few : r.count ≤ 16
  pub many : r.many ≤ 8
  pub bound : r.first + r.many ≤ frames + 1
  pub begun : r.opened.frames ≤ frames
  pub leads : Leads z start frames file at stop o r.next r.opened (λ q x. frames_at q file after r.count r.many r.first x)

-- the event at a place is of the frame that began last
pub record Stays (start : Bool) (frames : ℕ) (file : List ℕ) (e stop : ℕ) (o : Open) (j : ℕ) : Type 0 where
  pub before : e < stop
  pub few : j < 16
  pub inside : first_by start frames o (told_at file e) ≡ false

-- ---- eight frames a step apart

-- frame t of them, from its first event to a place, where j of its events are players'
pub record Part (z : Spans) (frames : ℕ) (file : List ℕ) (at stop e : ℕ) (o : Open) (t j : ℕ) (places : List ℕ) : Type 0 where
  pub some : SomeBy z file e stop
  pub leads : Leads z true frames file at stop o e (open_of (o.frames + 1) (told_at file at).id) (λ q x. frame_at q file places t j (o.frames + 1) x)

-- all of them, where the first one is known to stand there, and each other one as far as the one before it ends where it begins
pub record Following (z : Spans) (frames : ℕ) (file : List ℕ) (at stop step e j : ℕ) (places : List ℕ) : Type 0 where
  pub whole : Each (WholeBy z file) places
  pub some : SomeBy z file e stop
  pub few : j ≤ 16
  pub inside : e ≤ at + step
  pub parts : (t : ℕ) → t < 8 → (o : Open) → o.frames < frames → SomeBy z file (at + t * step) stop
      → Part z frames file (at + t * step) stop (e + t * step) o t j places

-- all of them were found, and each has j players' events
pub record Followed (z : Spans) (start : Bool) (frames : ℕ) (file : List ℕ) (at stop step was j : ℕ) (places : List ℕ) : Type 0 where
  pub ahead : Ahead z start file at stop step (was + 1) frames
  pub all : Following z frames file at stop step (at + step) j places

-- What functions promise each other of the pass in two parts: the stores that are no player's, and the players'. Each part goes over all events by itself.
-- Assumes nothing.
use Rattle.std.specs.Prelude.{ℕ, ◌+◌, ◌*◌, ◌/◌, ◌≤◌, ◌≡◌, Bool, true, ◌&&◌, List, [], ◌∷◌, ◌++◌, eqb, length, get_or, drop}
use Rattle.format.specs.File.{Ev, event_bytes, events_bytes}
use Rattle.layout.specs.Columns.{sum}
use Rattle.game.specs.Stores.{Lent, cells, offsets, lent}
use Rattle.game.specs.declared.frames.Counts.{Counts}
use Rattle.grammar.specs.WellFormed.{Each}
use Rattle.read_event.specs.Inner.{Plan, Told, told_by, span_by, opens, open_after, next_after, marked, offset_marked, row_put, player_put, bit_put, none, Roomy}
use Rattle.read_event.specs.declared.seen.Open.{Open}
use Rattle.read_event.specs.declared.seen.Seen.{Seen}
use Rattle.read_event.specs.declared.spans.Spans.{Spans}

-- ---- events of these sizes

-- an event has the size of its code
pub record SizedBy (z : Spans) (e : Ev) : Type 0 where
  pub long : 5 ≤ span_by z e.code
  pub size : length (event_bytes e) ≡ span_by z e.code

-- these events stand from a place to another
pub record SpelledBy (z : Spans) (file : List ℕ) (at end : ℕ) (es : List Ev) : Type 0 where
  pub rest : List ℕ
  pub here : drop at file ≡ events_bytes es ++ rest
  pub long : end ≡ at + length (events_bytes es)
  pub sized : Each (SizedBy z) es

pub record SomeBy (z : Spans) (file : List ℕ) (at end : ℕ) : Type 0 where
  pub events : List Ev
  pub spelled : SpelledBy z file at end events

-- a whole event stands at a place
pub record WholeBy (z : Spans) (file : List ℕ) (at : ℕ) : Type 0 where
  pub long : 5 ≤ span_by z (get_or file at 0)
  pub inside : at + span_by z (get_or file at 0) ≤ length file

-- ---- one event after another

unfoldable pub fold : {S : Type 0} → (S → Told → S) → List Ev → S → S
fold go [] s = s
fold go (e ∷ es) s = fold go es (go s (told_by e))

-- what is left to do gives what was to do
pub record LeftBy {S : Type 0} (go : S → Told → S) (z : Spans) (file : List ℕ) (at end : ℕ) (s all : S) : Type 0 where
  pub events : List Ev
  pub spelled : SpelledBy z file at end events
  pub same : fold go events s ≡ all

-- ---- the stores that are no player's

pub record Rows : Type 0 where
  pub ids : List ℕ
  pub starts : List ℕ
  pub ends : List ℕ
  pub items : List ℕ
  pub fods : List ℕ
  pub whispys : List ℕ
  pub stadiums : List ℕ
  pub item_offsets : List ℕ
  pub fod_offsets : List ℕ
  pub whispy_offsets : List ℕ
  pub stadium_offsets : List ℕ

abbrev pub rows : (ids starts ends items fods whispys stadiums item_offsets fod_offsets whispy_offsets stadium_offsets : List ℕ) → Rows
rows ids starts ends items fods whispys stadiums item_offsets fod_offsets whispy_offsets stadium_offsets = record {
  ids = ids;
  starts = starts;
  ends = ends;
  items = items;
  fods = fods;
  whispys = whispys;
  stadiums = stadiums;
  item_offsets = item_offsets;
  fod_offsets = fod_offsets;
  whispy_offsets = whispy_offsets;
  stadium_offsets = stadium_offsets;
}

-- what is known of them before
pub record RowPlan : Type 0 where
  pub start : List ℕ
  pub end : List ℕ
  pub item : List ℕ
  pub fod : List ℕ
  pub whispy : List ℕ
  pub stadium : List ℕ
  pub has_start : Bool
  pub has_item : Bool
  pub has_stage : Bool
  pub counts : Counts

abbrev pub row_plan : (start end item fod whispy stadium : List ℕ) → (has_start has_item has_stage : Bool) → Counts → RowPlan
row_plan start end item fod whispy stadium has_start has_item has_stage counts = record {
  start = start;
  end = end;
  item = item;
  fod = fod;
  whispy = whispy;
  stadium = stadium;
  has_start = has_start;
  has_item = has_item;
  has_stage = has_stage;
  counts = counts;
}

-- events have the sizes of these columns
pub record RowSpans (z : Spans) (q : RowPlan) : Type 0 where
  pub start : z.start ≡ 5 + sum q.start
  pub end : z.end ≡ 5 + sum q.end
  pub item : z.item ≡ 5 + sum q.item
  pub fod : z.fod ≡ 5 + sum q.fod
  pub whispy : z.whispy ≡ 5 + sum q.whispy
  pub stadium : z.stadium ≡ 5 + sum q.stadium

pub record RowRooms (q : RowPlan) (w : Rows) : Type 0 where
  pub starts : Roomy q.start w.starts 1 q.counts.frames
  pub ends : Roomy q.end w.ends 1 q.counts.frames
  pub items : Roomy q.item w.items 1 q.counts.items
  pub fods : Roomy q.fod w.fods 1 q.counts.fods
  pub whispys : Roomy q.whispy w.whispys 1 q.counts.whispys
  pub stadiums : Roomy q.stadium w.stadiums 1 q.counts.stadiums

abbrev pub first_by : Bool → ℕ → Open → Told → Bool
first_by start frames o t = opens start frames o t.code t.id

abbrev pub open_told : Bool → ℕ → Open → Told → Open
open_told start frames o t = open_after (first_by start frames o t) t.id o

abbrev pub seen_told : RowPlan → Seen → Told → Seen
seen_told q s t = record { opened = open_told q.has_start q.counts.frames s.opened t; next = next_after t.code q.counts s.next }

abbrev pub offsets_marked : RowPlan → Bool → Seen → Rows → Rows
offsets_marked q on s w =
    let n = s.opened.frames in
    rows w.ids w.starts w.ends w.items w.fods w.whispys w.stadiums (offset_marked (on && q.has_item) n s.next.items w.item_offsets)
    (offset_marked (on && q.has_stage) n s.next.fods w.fod_offsets) (offset_marked (on && q.has_stage) n s.next.whispys w.whispy_offsets)
    (offset_marked (on && q.has_stage) n s.next.stadiums w.stadium_offsets)

abbrev pub rows_told : RowPlan → Seen → Told → Rows → Rows
rows_told q s t w =
    let on = first_by q.has_start q.counts.frames s.opened t in
    let n = s.opened.frames in
    rows (marked on n t.id w.ids) (row_put (eqb t.code 0x3A) q.start t.body q.counts.frames s.next.starts w.starts)
    (row_put (eqb t.code 0x3C) q.end t.body q.counts.frames s.next.ends w.ends)
    (row_put (eqb t.code 0x3B) q.item t.body q.counts.items s.next.items w.items)
    (row_put (eqb t.code 0x3F) q.fod t.body q.counts.fods s.next.fods w.fods)
    (row_put (eqb t.code 0x40) q.whispy t.body q.counts.whispys s.next.whispys w.whispys)
    (row_put (eqb t.code 0x41) q.stadium t.body q.counts.stadiums s.next.stadiums w.stadiums) (offset_marked (on && q.has_item) n s.next.items w.item_offsets)
    (offset_marked (on && q.has_stage) n s.next.fods w.fod_offsets) (offset_marked (on && q.has_stage) n s.next.whispys w.whispy_offsets)
    (offset_marked (on && q.has_stage) n s.next.stadiums w.stadium_offsets)

pub record Rowing : Type 0 where
  pub seen : Seen
  pub rows : Rows

abbrev pub rowing : Seen → Rows → Rowing
rowing s w = record { seen = s; rows = w }

unfoldable pub go_rows : RowPlan → Rowing → Told → Rowing
go_rows q x t = rowing (seen_told q x.seen t) (rows_told q x.seen t x.rows)

-- after the last event the last offsets
unfoldable pub rows_done : RowPlan → Rowing → Rows
rows_done q x = offsets_marked q true x.seen x.rows

abbrev pub rows_run : RowPlan → List Ev → Rows → Rows
rows_run q es w = rows_done q (fold (go_rows q) es (rowing none w))

-- ---- the players' stores

pub record Seats : Type 0 where
  pub pres : List ℕ
  pub posts : List ℕ
  pub presence : List ℕ

abbrev pub seats : List ℕ → List ℕ → List ℕ → Seats
seats pres posts presence = record { pres = pres; posts = posts; presence = presence }

-- what is known of them before: the widths of both families' columns, the slots' numbers, and how many rows a column has
pub record Seating : Type 0 where
  pub pre : List ℕ
  pub post : List ℕ
  pub numbers : List ℕ
  pub rows : ℕ

abbrev pub seating : List ℕ → List ℕ → List ℕ → ℕ → Seating
seating pre post numbers rows = record { pre = pre; post = post; numbers = numbers; rows = rows }

-- events have the sizes of these columns
pub record SeatSpans (z : Spans) (q : Seating) : Type 0 where
  pub pre : z.pre ≡ 7 + sum q.pre
  pub post : z.post ≡ 7 + sum q.post

pub record SeatRooms (q : Seating) (r : Seats) : Type 0 where
  pub pres : Roomy q.pre r.pres (length q.numbers) q.rows
  pub posts : Roomy q.post r.posts (length q.numbers) q.rows
  pub bits : length q.numbers * ((q.rows + 7) / 8) ≤ length r.presence
  pub modest : q.rows ≤ 1048576

-- a player's event into them, where n frames began
unfoldable pub seat_told : Seating → ℕ → Told → Seats → Seats
seat_told q n t r =
    seats (player_put (eqb t.code 0x37) q.pre q.numbers t q.rows n r.pres) (player_put (eqb t.code 0x38) q.post q.numbers t q.rows n r.posts)
    (bit_put (eqb t.code 0x37) q.numbers t q.rows n r.presence)

pub record Seated : Type 0 where
  pub opened : Open
  pub seats : Seats

abbrev pub seated_as : Open → Seats → Seated
seated_as o r = record { opened = o; seats = r }

unfoldable pub go_seats : Bool → Seating → Seated → Told → Seated
go_seats start q x t = let o = open_told start q.rows x.opened t in seated_as o (seat_told q o.frames t x.seats)

abbrev pub seats_run : Bool → Seating → List Ev → Seats → Seats
seats_run start q es r = (fold (go_seats start q) es (seated_as none.opened r)).seats

-- ---- both parts of all stores

abbrev pub row_plan_of : Plan → RowPlan
row_plan_of p = row_plan p.start p.end p.item p.fod p.whispy p.stadium p.has_start p.has_item p.has_stage p.counts

abbrev pub seating_of : Plan → Seating
seating_of p = seating p.pre p.post p.numbers p.counts.frames

abbrev pub rows_of : Lent → Rows
rows_of l =
    let c = l.cells in
    let o = l.offsets in
    rows c.ids c.starts c.ends c.items c.fods c.whispys c.stadiums o.items o.fods o.whispys o.stadiums

abbrev pub seats_of : Lent → Seats
seats_of l = seats l.cells.pres l.cells.posts l.presence

abbrev pub lent_of : Rows → Seats → Lent
lent_of w r =
    lent (cells w.ids w.starts r.pres r.posts w.ends w.items w.fods w.whispys w.stadiums)
    (offsets w.item_offsets w.fod_offsets w.whispy_offsets w.stadium_offsets) r.presence

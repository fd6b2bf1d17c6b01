-- What functions promise each other: one pass over events, a store at a time. An event goes into its store's next row; a player's into its slot's block.
-- Assumes nothing.
use Rattle.std.specs.Prelude.{ℕ, ◌+◌, ◌-◌, ◌*◌, ◌/◌, ◌%◌, ◌^◌, ◌≤◌, ◌≡◌, Bool, true, false, not, cond, ◌&&◌, ◌||◌, List, [], ◌∷◌, ◌++◌, map, eqb, ltb, length, get_or, set, take, drop, replicate}
use Rattle.wire.specs.Wire.{number, part, splice}
use Rattle.format.specs.File.{Ev, event_bytes, events_bytes, index_of}
use Rattle.layout.specs.Columns.{sum, has_family, widths_of}
use Rattle.layout.specs.Inner.{Narrow}
use Rattle.game.specs.Stores.{Cells, Offsets, Lent, cells, offsets, lent}
use Rattle.layout.specs.declared.columns.Family.{Family}
use Rattle.layout.specs.declared.columns.Family.TheVariants.{Pre, Post, FrameStart, Item, FrameEnd, FodPlatform, DreamlandWhispy, StadiumTransformation}
use Rattle.game.specs.Frames.{slots_of}
use Rattle.game.specs.declared.frames.Counts.{Counts}
use Rattle.game.specs.declared.frames.Frames.{Frames}
use Rattle.columns.specs.Columns.{slot_number, frames_read}
use Rattle.record.specs.Record.{read_back}
use Rattle.grammar.specs.Productions.{Frame, events_of_frames}
use Rattle.grammar.specs.WellFormed.{Each, ascending, GoodFrame}
use Rattle.grammar.specs.Readable.{Changing}
use Rattle.read_event.specs.declared.seen.Open.{Open}
use Rattle.read_event.specs.declared.seen.Next.{Next}
use Rattle.read_event.specs.declared.seen.Seen.{Seen}
use Rattle.read_event.specs.declared.spans.Spans.{Spans}

-- ---- what is known before the pass

-- the widths of each family's columns, whether the version has a FrameStart, items and a stage's rows, how many rows there are, and the slots' numbers
pub record Plan : Type 0 where
  pub start : List ℕ
  pub pre : List ℕ
  pub post : List ℕ
  pub end : List ℕ
  pub item : List ℕ
  pub fod : List ℕ
  pub whispy : List ℕ
  pub stadium : List ℕ
  pub has_start : Bool
  pub has_item : Bool
  pub has_stage : Bool
  pub counts : Counts
  pub numbers : List ℕ

abbrev pub plan : (start pre post end item fod whispy stadium : List ℕ) → (has_start has_item has_stage : Bool) → Counts → List ℕ → Plan
plan start pre post end item fod whispy stadium has_start has_item has_stage counts numbers = record {
  start = start;
  pre = pre;
  post = post;
  end = end;
  item = item;
  fod = fod;
  whispy = whispy;
  stadium = stadium;
  has_start = has_start;
  has_item = has_item;
  has_stage = has_stage;
  counts = counts;
  numbers = numbers;
}

-- how many bytes an event has, by its code
abbrev pub spans_of : Plan → Spans
spans_of p = record {
  pre = 7 + sum p.pre;
  post = 7 + sum p.post;
  start = 5 + sum p.start;
  item = 5 + sum p.item;
  end = 5 + sum p.end;
  fod = 5 + sum p.fod;
  whispy = 5 + sum p.whispy;
  stadium = 5 + sum p.stadium;
}

unfoldable pub span_by : Spans → ℕ → ℕ
span_by z code =
    cond (eqb code 0x37) z.pre
    (cond (eqb code 0x38) z.post
    (cond (eqb code 0x3A) z.start
    (cond (eqb code 0x3B) z.item
    (cond (eqb code 0x3C) z.end (cond (eqb code 0x3F) z.fod (cond (eqb code 0x40) z.whispy (cond (eqb code 0x41) z.stadium 0)))))))

abbrev pub span_in : Plan → ℕ → ℕ
span_in p code = span_by (spans_of p) code

-- ---- one event

-- what an event says: its code, its frame's id, the player, and the bytes of its row, behind the id and behind the player
pub record Told : Type 0 where
  pub code : ℕ
  pub id : ℕ
  pub port : ℕ
  pub follower : ℕ
  pub body : List ℕ
  pub own : List ℕ

abbrev pub told_at : List ℕ → ℕ → Told
told_at file at = record {
  code = get_or file at 0;
  id = number (part file (at + 1) 4);
  port = get_or file (at + 5) 0;
  follower = get_or file (at + 6) 0;
  body = drop (at + 5) file;
  own = drop (at + 7) file;
}

abbrev pub told_by : Ev → Told
told_by e = record {
  code = e.code;
  id = number (take 4 e.payload);
  port = get_or e.payload 4 0;
  follower = get_or e.payload 5 0;
  body = drop 4 e.payload;
  own = drop 6 e.payload;
}

-- it is the first of a frame: a FrameStart, or, where there is none, a Pre with another id than the frame before
unfoldable pub opens : Bool → ℕ → Open → ℕ → ℕ → Bool
opens has_start frames o code id = cond has_start (eqb code 0x3A) (eqb code 0x37 && (eqb o.frames 0 || not (eqb o.id id))) && ltb o.frames frames

-- x stored at index n, or not
unfoldable pub marked : Bool → ℕ → ℕ → List ℕ → List ℕ
marked on n x xs = cond on (set xs n x) xs

-- an offset is a number of four bytes
abbrev pub offset_marked : Bool → ℕ → ℕ → List ℕ → List ℕ
offset_marked on n k os = marked on n (k % 4294967296) os

-- bytes into a row, where the event is of the family and the row is one of the store's, and the row after it
unfoldable pub row_put : Bool → List ℕ → List ℕ → ℕ → ℕ → List ℕ → List ℕ
row_put on ws bytes rows row xs = cond (on && ltb row rows) (read_back ws bytes xs rows row) xs

unfoldable pub row_next : Bool → ℕ → ℕ → ℕ
row_next on rows row = cond (on && ltb row rows) (row + 1) row

-- where a player's block is among the slots'; behind all of them where it has none
abbrev pub block_of : List ℕ → Told → ℕ
block_of numbers t = index_of (2 * t.port + t.follower) numbers

-- a player's bytes into the row of the frame that is the n-th, in its block
abbrev pub seated : Bool → List ℕ → Told → ℕ → ℕ → Bool
seated on numbers t frames n = on && (ltb 0 n && (ltb (n - 1) frames && ltb (block_of numbers t) (length numbers)))

unfoldable pub player_put : Bool → List ℕ → List ℕ → Told → ℕ → ℕ → List ℕ → List ℕ
player_put on ws numbers t frames n xs =
    cond (seated on numbers t frames n) (read_back ws t.own xs frames (block_of numbers t * (length ws * frames) + (n - 1))) xs

-- the bit of that frame in the player's presence bytes
unfoldable pub bit_put : Bool → List ℕ → Told → ℕ → ℕ → List ℕ → List ℕ
bit_put on numbers t frames n xs =
    let j = block_of numbers t * ((frames + 7) / 8) + (n - 1) / 8 in
    cond (seated on numbers t frames n) (set xs j ((get_or xs j 0 + 2 ^ ((n - 1) % 8)) % 256)) xs

-- ---- the stores after one event, and what was seen

unfoldable pub open_after : Bool → ℕ → Open → Open
open_after on id o = record { frames = cond on (o.frames + 1) o.frames; id = cond on id o.id }

unfoldable pub next_after : ℕ → Counts → Next → Next
next_after code c n = record {
  starts = row_next (eqb code 0x3A) c.frames n.starts;
  ends = row_next (eqb code 0x3C) c.frames n.ends;
  items = row_next (eqb code 0x3B) c.items n.items;
  fods = row_next (eqb code 0x3F) c.fods n.fods;
  whispys = row_next (eqb code 0x40) c.whispys n.whispys;
  stadiums = row_next (eqb code 0x41) c.stadiums n.stadiums;
}

-- the same of a stage's rows alone
unfoldable pub stage_after : ℕ → Counts → Next → Next
stage_after code c n = record {
  starts = n.starts;
  ends = n.ends;
  items = n.items;
  fods = row_next (eqb code 0x3F) c.fods n.fods;
  whispys = row_next (eqb code 0x40) c.whispys n.whispys;
  stadiums = row_next (eqb code 0x41) c.stadiums n.stadiums;
}

abbrev pub opens_by : Plan → Seen → Told → Bool
opens_by p s t = opens p.has_start p.counts.frames s.opened t.code t.id

abbrev pub open_by : Plan → Seen → Told → Open
open_by p s t = open_after (opens_by p s t) t.id s.opened

abbrev pub seen_after : Plan → Seen → Told → Seen
seen_after p s t = record { opened = open_by p s t; next = next_after t.code p.counts s.next }

abbrev pub step_cells : Plan → Seen → Told → Cells → Cells
step_cells p s t c =
    cells
    (marked (opens_by p s t) s.opened.frames t.id c.ids)
    (row_put (eqb t.code 0x3A) p.start t.body p.counts.frames s.next.starts c.starts)
    (player_put (eqb t.code 0x37) p.pre p.numbers t p.counts.frames (open_by p s t).frames c.pres)
    (player_put (eqb t.code 0x38) p.post p.numbers t p.counts.frames (open_by p s t).frames c.posts)
    (row_put (eqb t.code 0x3C) p.end t.body p.counts.frames s.next.ends c.ends)
    (row_put (eqb t.code 0x3B) p.item t.body p.counts.items s.next.items c.items)
    (row_put (eqb t.code 0x3F) p.fod t.body p.counts.fods s.next.fods c.fods)
    (row_put (eqb t.code 0x40) p.whispy t.body p.counts.whispys s.next.whispys c.whispys)
    (row_put (eqb t.code 0x41) p.stadium t.body p.counts.stadiums s.next.stadiums c.stadiums)

abbrev pub step_offsets : Plan → Bool → Seen → Offsets → Offsets
step_offsets p on s o =
    offsets
    (offset_marked (on && p.has_item) s.opened.frames s.next.items o.items)
    (offset_marked (on && p.has_stage) s.opened.frames s.next.fods o.fods)
    (offset_marked (on && p.has_stage) s.opened.frames s.next.whispys o.whispys)
    (offset_marked (on && p.has_stage) s.opened.frames s.next.stadiums o.stadiums)

unfoldable pub step : Plan → Seen → Told → Lent → Lent
step p s t l =
    lent
    (step_cells p s t l.cells)
    (step_offsets p (opens_by p s t) s l.offsets)
    (bit_put (eqb t.code 0x37) p.numbers t p.counts.frames (open_by p s t).frames l.presence)

-- after the last event the last offsets
unfoldable pub finish : Plan → Seen → Lent → Lent
finish p s l = lent l.cells (step_offsets p true s l.offsets) l.presence

-- ---- all events
unfoldable pub run : Plan → List Ev → Seen → Lent → Lent
run p [] s l = finish p s l
run p (e ∷ es) s l = run p es (seen_after p s (told_by e)) (step p s (told_by e) l)

-- ---- what functions ask

-- a store has room for blocks of columns
pub record Roomy (ws : List ℕ) (xs : List ℕ) (blocks rows : ℕ) : Type 0 where
  pub narrow : Narrow ws
  pub room : blocks * (length ws * rows) ≤ length xs

pub record Rooms (p : Plan) (l : Lent) : Type 0 where
  pub starts : Roomy p.start l.cells.starts 1 p.counts.frames
  pub pres : Roomy p.pre l.cells.pres (length p.numbers) p.counts.frames
  pub posts : Roomy p.post l.cells.posts (length p.numbers) p.counts.frames
  pub ends : Roomy p.end l.cells.ends 1 p.counts.frames
  pub items : Roomy p.item l.cells.items 1 p.counts.items
  pub fods : Roomy p.fod l.cells.fods 1 p.counts.fods
  pub whispys : Roomy p.whispy l.cells.whispys 1 p.counts.whispys
  pub stadiums : Roomy p.stadium l.cells.stadiums 1 p.counts.stadiums
  pub bits : length p.numbers * ((p.counts.frames + 7) / 8) ≤ length l.presence
  pub modest : p.counts.frames ≤ 1048576

-- a whole event stands at a place
pub record Whole (p : Plan) (file : List ℕ) (at : ℕ) : Type 0 where
  pub long : 5 ≤ span_in p (get_or file at 0)
  pub inside : at + span_in p (get_or file at 0) ≤ length file

-- an event of a family's code has all of its row's bytes
abbrev pub Long : List ℕ → ℕ → Bool → List ℕ → Type 0
Long file at on ws = on ≡ true → at + sum ws ≤ length file

-- an event has the size of its code
pub record Sized (p : Plan) (e : Ev) : Type 0 where
  pub long : 5 ≤ span_in p e.code
  pub size : length (event_bytes e) ≡ span_in p e.code

-- these events stand from a place to another
pub record Spelled (p : Plan) (file : List ℕ) (at end : ℕ) (es : List Ev) : Type 0 where
  pub rest : List ℕ
  pub here : drop at file ≡ events_bytes es ++ rest
  pub long : end ≡ at + length (events_bytes es)
  pub sized : Each (Sized p) es

pub record SomeSpelled (p : Plan) (file : List ℕ) (at end : ℕ) : Type 0 where
  pub events : List Ev
  pub spelled : Spelled p file at end events

-- what is left to do gives what was to do
pub record Left (p : Plan) (file : List ℕ) (at end : ℕ) (s : Seen) (l all : Lent) : Type 0 where
  pub events : List Ev
  pub spelled : Spelled p file at end events
  pub same : run p events s l ≡ all

-- nothing was seen
abbrev pub none : Seen
none = record {
  opened = record { frames = 0; id = 0 };
  next = record { starts = 0; ends = 0; items = 0; fods = 0; whispys = 0; stadiums = 0 };
}

-- ---- the plan of a frame input

abbrev pub numbers_of : Frames → List ℕ
numbers_of f = map slot_number (slots_of f)

abbrev pub plan_of : Frames → Plan
plan_of f =
    let v = f.version in
    plan (widths_of FrameStart v) (widths_of Pre v) (widths_of Post v) (widths_of FrameEnd v) (widths_of Item v) (widths_of FodPlatform v) (widths_of DreamlandWhispy v)
    (widths_of StadiumTransformation v) (has_family v FrameStart) (has_family v Item) (has_family v FodPlatform) f.counts (numbers_of f)

-- n zeros at the front
abbrev pub zeros : ℕ → List ℕ → List ℕ
zeros n xs = splice xs 0 (replicate n 0)

-- how many cells of players a store has, and how many presence bytes there are
abbrev pub player_cells : Frames → Family → ℕ
player_cells f family = length (slots_of f) * (length (widths_of family f.version) * f.counts.frames)

abbrev pub presence_cells : Frames → ℕ
presence_cells f = length (slots_of f) * ((f.counts.frames + 7) / 8)

-- what players have is zero where nobody is
unfoldable pub cleared : Frames → Lent → Lent
cleared f l =
    lent
    (cells l.cells.ids l.cells.starts (zeros (player_cells f Pre) l.cells.pres) (zeros (player_cells f Post) l.cells.posts) l.cells.ends l.cells.items
    l.cells.fods l.cells.whispys l.cells.stadiums)
    l.offsets
    (zeros (presence_cells f) l.presence)

-- the slots' numbers as an array
pub record Numbered (f : Frames) (count : ℕ) (array : List ℕ) : Type 0 where
  pub few : count ≤ length array
  pub are : take count array ≡ numbers_of f

-- ---- frames in a file

-- these frames stand from a place to another, in order, and the frame input is theirs
pub record Stands (f : Frames) (file : List ℕ) (first stop : ℕ) (fs : List Frame) : Type 0 where
  pub rest : List ℕ
  pub here : drop first file ≡ events_bytes (events_of_frames f.version fs) ++ rest
  pub long : stop ≡ first + length (events_bytes (events_of_frames f.version fs))
  pub good : Each (GoodFrame f.version ascending) fs
  pub changing : has_family f.version FrameStart ≡ false → Changing fs
  pub read : f ≡ frames_read f.version fs

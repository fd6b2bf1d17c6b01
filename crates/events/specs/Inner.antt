-- What the functions ask and promise each other: stores of the lengths that the counts say, and the bytes of a frame by shapes, which are what all
-- records of a family share, worked out once.
-- Assumes nothing.
use Rattle.std.specs.Prelude.{ℕ, ◌+◌, ◌-◌, ◌*◌, ◌≤◌, ◌≡◌, true, List, ◌++◌, length, get_or, take}
use Rattle.wire.specs.Wire.{ranged, keep}
use Rattle.format.specs.Event.{code_of}
use Rattle.format.specs.File.{event_bytes}
use Rattle.layout.specs.Columns.{has_family, widths_of, sum}
use Rattle.layout.specs.Inner.{Narrow, Widths}
use Rattle.layout.specs.Payloads.{event_of}
use Rattle.layout.specs.declared.columns.Family.{Family}
use Rattle.layout.specs.declared.columns.Family.TheVariants.{Pre, Post, FrameStart, Item, FrameEnd, FodPlatform, DreamlandWhispy, StadiumTransformation}
use Rattle.record.specs.Record.{record_of}
use Rattle.record.specs.declared.Head.{Head}
use Rattle.players.specs.Inner.{Modest, Ranges}
use Rattle.places.specs.Inner.{Seated}
use Rattle.game.specs.Frames.{rows_of, slot_blocks}
use Rattle.game.specs.Stores.{Offsets, Lent, cells_of, offsets_of}
use Rattle.players.specs.Presence.{marked}
use Rattle.game.specs.declared.frames.Frames.{Frames}
use Rattle.players.specs.declared.slots.Slots.{Slots}
use Rattle.events.specs.Events.{plain_head, player_head, id_of}
use Rattle.events.specs.declared.shapes.Shape.{Shape}
use Rattle.events.specs.declared.shapes.Shapes.{Shapes}

-- a family's offsets, where the version has it
abbrev pub RangesIn : Frames → Lent → Family → Type 0
RangesIn f lent family = has_family f.version family ≡ true → Ranges f.counts.frames (rows_of f family) (offsets_of lent.offsets family)

-- the stores of an accepted input: of the lengths that its counts say, with offsets that are ranges
pub record Framed (f : Frames) (lent : Lent) : Type 0 where
  pub modest : Modest f
  pub ids : length lent.cells.ids ≡ f.counts.frames
  pub stores : (family : Family) → length (cells_of lent.cells family) ≡ slot_blocks f family * (length (widths_of family f.version) * rows_of f family)
  pub items : RangesIn f lent Item
  pub fods : RangesIn f lent FodPlatform
  pub whispys : RangesIn f lent DreamlandWhispy
  pub stadiums : RangesIn f lent StadiumTransformation

-- a family's shape says what the version and the counts say
pub record ShapeOf (f : Frames) (family : Family) (m : Shape) : Type 0 where
  pub given : m.given ≡ has_family f.version family
  pub code : m.code ≡ code_of (event_of family)
  pub rows : m.rows ≡ rows_of f family
  pub columns : Widths family f.version m.count m.bytes m.widths
  pub block : m.block ≡ m.count * m.rows
  pub small : m.block ≤ 134217728

pub record ShapesOf (f : Frames) (p : Shapes) : Type 0 where
  pub start : ShapeOf f FrameStart p.start
  pub pre : ShapeOf f Pre p.pre
  pub fod : ShapeOf f FodPlatform p.fod
  pub whispy : ShapeOf f DreamlandWhispy p.whispy
  pub stadium : ShapeOf f StadiumTransformation p.stadium
  pub item : ShapeOf f Item p.item
  pub post : ShapeOf f Post p.post
  pub end : ShapeOf f FrameEnd p.end

abbrev pub columns_in : Shape → List ℕ
columns_in m = take m.count m.widths

-- a record whose first cell is at an index
abbrev pub record_in : Shape → List ℕ → Head → ℕ → List ℕ
record_in m cells h first = event_bytes (record_of h (columns_in m) cells m.rows first)

-- frame i's row; rows from a on and before b; frame i's rows by offsets; the players' rows
unfoldable pub one_bytes : Shape → List ℕ → ℕ → ℕ → List ℕ
one_bytes m cells id i = keep m.given (record_in m cells (plain_head m.code id) i)

abbrev pub range_bytes : Shape → List ℕ → ℕ → ℕ → ℕ → List ℕ
range_bytes m cells id a b = ranged (λ j. record_in m cells (plain_head m.code id) j) a (b - a)

unfoldable pub rows_bytes : Shape → List ℕ → List ℕ → ℕ → ℕ → List ℕ
rows_bytes m cells offsets id i = keep m.given (range_bytes m cells id (get_or offsets i 0) (get_or offsets (i + 1) 0))

abbrev pub slot_bytes : Shape → Slots → List ℕ → List ℕ → ℕ → ℕ → ℕ → List ℕ
slot_bytes m s cells bits id i k =
    keep (marked bits (get_or s.at k 0) (get_or s.len k 0) i)
    (record_in m cells (player_head m.code id (get_or s.ports k 0) (get_or s.followers k 0)) (k * m.block + i))

unfoldable pub slots_bytes : Shape → Slots → List ℕ → List ℕ → ℕ → ℕ → List ℕ
slots_bytes m s cells bits id i = ranged (slot_bytes m s cells bits id i) 0 s.count

-- frame i has no row of a family with offsets
abbrev pub Lacking : Shape → List ℕ → ℕ → Type 0
Lacking m offsets i = m.given ≡ true → get_or offsets (i + 1) 0 ≤ get_or offsets i 0

-- the rows by offsets: the stage's, then the items
unfoldable pub middle_bytes : Shapes → (items fods whispys stadiums : List ℕ) → Offsets → ℕ → ℕ → List ℕ
middle_bytes p items fods whispys stadiums o id i =
    rows_bytes p.fod fods o.fods id i
    ++ (rows_bytes p.whispy whispys o.whispys id i ++ (rows_bytes p.stadium stadiums o.stadiums id i ++ rows_bytes p.item items o.items id i))

unfoldable pub frame_bytes : Shapes → Slots → Lent → ℕ → List ℕ
frame_bytes p s lent i =
    let c = lent.cells in
    let id = id_of lent i in
    one_bytes p.start c.starts id i
    ++ (slots_bytes p.pre s c.pres lent.presence id i
    ++ (middle_bytes p c.items c.fods c.whispys c.stadiums lent.offsets id i
    ++ (slots_bytes p.post s c.posts lent.presence id i
    ++ one_bytes p.end c.ends id i)))

-- a store that has a shape's blocks
pub record LaidOut (m : Shape) (cells : List ℕ) (blocks : ℕ) : Type 0 where
  pub few : m.count ≤ length m.widths
  pub narrow : Narrow (columns_in m)
  pub total : m.bytes ≡ sum (columns_in m)
  pub slim : m.bytes ≤ 128
  pub block : m.block ≡ m.count * m.rows
  pub small : m.block ≤ 134217728
  pub whole : length cells ≡ blocks * m.block

-- one that has a row for each of n frames in each block, and one with offsets
pub record PerFrame (m : Shape) (cells : List ℕ) (blocks n : ℕ) : Type 0 where
  pub laid : LaidOut m cells blocks
  pub rows : m.rows ≡ n

pub record PerOffset (m : Shape) (cells offsets : List ℕ) (n : ℕ) : Type 0 where
  pub laid : LaidOut m cells 1
  pub ranges : m.given ≡ true → Ranges n m.rows offsets

-- all that is written of n frames is there
pub record Supplied (p : Shapes) (s : Slots) (lent : Lent) (n : ℕ) : Type 0 where
  pub ids : length lent.cells.ids ≡ n
  pub frames : n ≤ 1048576
  pub seats : Seated s
  pub start : PerFrame p.start lent.cells.starts 1 n
  pub pre : PerFrame p.pre lent.cells.pres s.count n
  pub fod : PerOffset p.fod lent.cells.fods lent.offsets.fods n
  pub whispy : PerOffset p.whispy lent.cells.whispys lent.offsets.whispys n
  pub stadium : PerOffset p.stadium lent.cells.stadiums lent.offsets.stadiums n
  pub item : PerOffset p.item lent.cells.items lent.offsets.items n
  pub post : PerFrame p.post lent.cells.posts s.count n
  pub end : PerFrame p.end lent.cells.ends 1 n

-- One player's card: when two games agree in all but the Pre and Post cells of one port, leader and follower, and what may differ in their files then.
-- Assumes nothing.
use Rattle.std.specs.Prelude.{ℕ, ◌+◌, ◌*◌, ◌≤◌, ◌<◌, ◌≡◌, Bool, true, false, ◌||◌, ◌&&◌, List, [], ◌∷◌, ◌++◌, eqb, length, get_or, take}
use Rattle.format.specs.Event.{code_of}
use Rattle.format.specs.File.{Ev, events_bytes}
use Rattle.format.specs.declared.event.Event.TheVariants.{FramePre, FramePost}
use Rattle.layout.specs.Columns.{widths_of}
use Rattle.layout.specs.declared.columns.Family.{Family}
use Rattle.layout.specs.declared.columns.Family.TheVariants.{Pre, Post}
use Rattle.game.specs.Frames.{no_port, no_slot, ports_of, slots_of, rows_of}
use Rattle.game.specs.Stores.{Lent, Stores}
use Rattle.game.specs.declared.Game.{Game}
use Rattle.game.specs.declared.frames.Frames.{Frames}
use Rattle.players.specs.Presence.{present_at}
use Rattle.rows_run.specs.Run.{family_at, of_players, RowsOutcome}
use Rattle.rows_run.specs.declared.run.Run.{Run}
use Rattle.transpose.specs.Ports.{no_port_data}
use Rattle.transpose.specs.Answers.{pre_row, post_row, item_row, fod_platform_row, dreamland_whispy_row, stadium_transformation_row, frame_row}
use Rattle.transpose.specs.declared.frame.FrameRow.{FrameRow}

-- ---- the games

-- the port of a slot, and of a port column
abbrev pub slot_port : Frames → ℕ → ℕ
slot_port f block = (get_or (slots_of f) block no_slot).port

abbrev pub column_port : Frames → ℕ → ℕ
column_port f k = (get_or (ports_of f) k no_port).port

-- two stores of Pre or of Post have the same cells in the blocks of the other ports' slots
pub record SameElsewhere (f : Frames) (port : ℕ) (family : Family) (a b : List ℕ) : Type 0 where
  pub cell : (block column row : ℕ) → block < length (slots_of f) → column < length (widths_of family f.version) → row < rows_of f family
      → (slot_port f block ≡ port → ⊥)
      → get_or a ((block * length (widths_of family f.version) + column) * rows_of f family + row) 0
      ≡ get_or b ((block * length (widths_of family f.version) + column) * rows_of f family + row) 0

-- two frame inputs have the same version, counts, ports and followers, however many presence bytes each player has
pub record SamePlayers (f h : Frames) : Type 0 where
  pub version : f.version ≡ h.version
  pub counts : f.counts ≡ h.counts
  pub port_count : f.port_count ≡ h.port_count
  pub port : (k : ℕ) → column_port f k ≡ column_port h k
  pub follower : (k : ℕ) → (get_or (ports_of f) k no_port).follower ≡ (get_or (ports_of h) k no_port).follower

-- presence says the same of every player in every frame: no bytes may stand against bytes that say yes, and spare bits may be any
pub record SamePresence (f h : Frames) (bits other : List ℕ) : Type 0 where
  pub in_frame : (k i : ℕ) → k < length (slots_of f) → i < f.counts.frames
      → present_at bits (get_or (slots_of f) k no_slot) i ≡ present_at other (get_or (slots_of h) k no_slot) i

-- what is lent with the frames agrees in all but the port's Pre and Post cells; presence says the same
pub record CardApart (f h : Frames) (port : ℕ) (s t : Lent) : Type 0 where
  pub presence : SamePresence f h s.presence t.presence
  pub ids : s.cells.ids ≡ t.cells.ids
  pub starts : s.cells.starts ≡ t.cells.starts
  pub pres : SameElsewhere f port Pre s.cells.pres t.cells.pres
  pub posts : SameElsewhere f port Post s.cells.posts t.cells.posts
  pub ends : s.cells.ends ≡ t.cells.ends
  pub items : s.cells.items ≡ t.cells.items
  pub fods : s.cells.fods ≡ t.cells.fods
  pub whispys : s.cells.whispys ≡ t.cells.whispys
  pub stadiums : s.cells.stadiums ≡ t.cells.stadiums
  pub offsets : s.offsets ≡ t.offsets

-- two games of one version, with the same counts, players, start, end and marks: all else that is lent with them is equal too
pub record Agree (g h : Game) (port : ℕ) (s t : Stores) : Type 0 where
  pub players : SamePlayers g.frames h.frames
  pub start : g.start ≡ h.start
  pub end : g.end ≡ h.end
  pub double_end : g.double_end ≡ h.double_end
  pub codes_given : g.codes_given ≡ h.codes_given
  pub metadata_given : g.metadata_given ≡ h.metadata_given
  pub actual_size : g.actual_size ≡ h.actual_size
  pub lent : CardApart g.frames h.frames port s.lent t.lent
  pub template : s.template ≡ t.template
  pub codes : s.codes ≡ t.codes
  pub metadata : s.metadata ≡ t.metadata

-- ---- their events

-- an event of the port: a Pre or a Post, whose port, after the four bytes of the frame id, is this one
abbrev pub is_players : ℕ → Bool
is_players code = eqb code (code_of FramePre) || eqb code (code_of FramePost)

abbrev pub of_port : ℕ → Ev → Bool
of_port port e = is_players e.code && eqb (get_or e.payload 4 0) port

-- two events that are equal, or are the port's and differ only behind the head of their payload: frame id (4), port and follower
pub record Beside (port : ℕ) (e d : Ev) : Type 0 where
  pub code : e.code ≡ d.code
  pub size : length e.payload ≡ length d.payload
  pub head : take 6 e.payload ≡ take 6 d.payload
  pub others : of_port port e ≡ false → e.payload ≡ d.payload

-- as many events here as there, each beside its own
unfoldable pub Alongside : ℕ → List Ev → List Ev → Type 0
Alongside port [] [] = Unit {0}
Alongside port [] (d ∷ ds) = ⊥
Alongside port (e ∷ es) [] = ⊥
Alongside port (e ∷ es) (d ∷ ds) = Beside port e d × Alongside port es ds

-- ---- the bytes of their files

-- byte p is in the payload of an event of the port, behind its head, where the code of the first of the events is byte `first`
pub record InCard (port : ℕ) (es : List Ev) (first p : ℕ) : Type 0 where
  pub before : List Ev
  pub event : Ev
  pub after : List Ev
  pub listed : es ≡ before ++ (event ∷ after)
  pub mine : of_port port event ≡ true
  pub from : first + length (events_bytes before) + 6 < p
  pub to : p ≤ first + length (events_bytes before) + length event.payload

-- ---- their rows

-- two rows of one frame that differ at most in what the port's players are
pub record FrameApart (f : Frames) (port : ℕ) (a b : FrameRow) : Type 0 where
  pub refused : a.refused ≡ b.refused
  pub version : a.row.version ≡ b.row.version
  pub id : a.row.id ≡ b.row.id
  pub port_count : a.row.port_count ≡ b.row.port_count
  pub start : a.row.start ≡ b.row.start
  pub end : a.row.end ≡ b.row.end
  pub items : a.row.items ≡ b.row.items
  pub fod_platforms : a.row.fod_platforms ≡ b.row.fod_platforms
  pub dreamland_whispys : a.row.dreamland_whispys ≡ b.row.dreamland_whispys
  pub stadium_transformations : a.row.stadium_transformations ≡ b.row.stadium_transformations
  pub ports : (k : ℕ) → (column_port f k ≡ port → ⊥) → get_or a.row.ports k no_port_data ≡ get_or b.row.ports k no_port_data

-- all rows: those of the other ports' slots, of the items and of the stages are equal, and a frame's differ at most in the port's players; so do runs of rows
pub record RowsApart (f h : Frames) (port : ℕ) (s t : Lent) : Type 0 where
  pub pre : (slot index : ℕ) → (slot_port f slot ≡ port → ⊥) → pre_row f s slot index ≡ pre_row h t slot index
  pub post : (slot index : ℕ) → (slot_port f slot ≡ port → ⊥) → post_row f s slot index ≡ post_row h t slot index
  pub item : (index : ℕ) → item_row f s index ≡ item_row h t index
  pub fod_platform : (index : ℕ) → fod_platform_row f s index ≡ fod_platform_row h t index
  pub dreamland_whispy : (index : ℕ) → dreamland_whispy_row f s index ≡ dreamland_whispy_row h t index
  pub stadium_transformation : (index : ℕ) → stadium_transformation_row f s index ≡ stadium_transformation_row h t index
  pub frame : (index : ℕ) → FrameApart f port (frame_row f s index) (frame_row h t index)
  pub run : (number slot a b : ℕ) → (of_players (family_at number) ≡ true → slot_port f slot ≡ port → ⊥) → {out first second : List ℕ} {q r : Run}
      → RowsOutcome f s number slot a b out q first → RowsOutcome h t number slot a b out r second → (q ≡ r) × (first ≡ second)

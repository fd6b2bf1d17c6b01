-- The productions of a replay: a tree of what stands in it, and the events that the tree stands for. No reader is named here.
-- Assumes nothing.
use Rattle.std.specs.Prelude.{ℕ, ◌+◌, List, [], ◌∷◌, ◌++◌, map}
use Rattle.wire.specs.Wire.{be, keep}
use Rattle.format.specs.Event.{code_of}
use Rattle.format.specs.File.{Ev}
use Rattle.format.specs.declared.event.Event.TheVariants.{GameStart, GameEnd, GeckoCodes, MessageSplitter}
use Rattle.format.specs.declared.version.Version.{Version}
use Rattle.layout.specs.Columns.{has_family}
use Rattle.layout.specs.Payloads.{event_of}
use Rattle.layout.specs.declared.columns.Family.{Family}
use Rattle.layout.specs.declared.columns.Family.TheVariants.{Pre, Post, FrameStart, Item, FrameEnd, FodPlatform, DreamlandWhispy, StadiumTransformation}

-- ---- the tree. Bytes are those of a payload behind what is named beside them

-- a player in a frame: the port, 0 for the leader or 1 for the follower, and the bytes of its Pre and of its Post
pub record Player : Type 0 where
  pub port : ℕ
  pub follower : ℕ
  pub pre : List ℕ
  pub post : List ℕ

-- a frame: its id, its start, its players, the rows of its stage and items, its end
pub record Frame : Type 0 where
  pub id : ℕ
  pub start : List ℕ
  pub players : List Player
  pub fods : List (List ℕ)
  pub whispys : List (List ℕ)
  pub stadiums : List (List ℕ)
  pub items : List (List ℕ)
  pub end : List ℕ

-- a block of codes: its bytes, and how many of them are codes
pub record Block : Type 0 where
  pub bytes : List ℕ
  pub used : ℕ

-- a replay: the start block, the blocks of codes, the frames, and the payloads of the ends
pub record Replay : Type 0 where
  pub block : List ℕ
  pub codes : List Block
  pub frames : List Frame
  pub ends : List (List ℕ)

-- ---- its events

-- a row of a frame, and a player's row
abbrev pub row_event : Family → ℕ → List ℕ → Ev
row_event family id bytes = record { code = code_of (event_of family); payload = be 4 id ++ bytes }

abbrev pub pre_event : ℕ → Player → Ev
pre_event id p = row_event Pre id (p.port ∷ p.follower ∷ p.pre)

abbrev pub post_event : ℕ → Player → Ev
post_event id p = row_event Post id (p.port ∷ p.follower ∷ p.post)

-- a frame: start; each player's Pre; Fod, Whispy, Stadium; items; each player's Post; end
unfoldable pub events_of_frame : Version → Frame → List Ev
events_of_frame v f =
    keep (has_family v FrameStart) (row_event FrameStart f.id f.start ∷ [])
    ++ (map (pre_event f.id) f.players
    ++ (map (row_event FodPlatform f.id) f.fods
    ++ (map (row_event DreamlandWhispy f.id) f.whispys
    ++ (map (row_event StadiumTransformation f.id) f.stadiums
    ++ (map (row_event Item f.id) f.items
    ++ (map (post_event f.id) f.players
    ++ keep (has_family v FrameEnd) (row_event FrameEnd f.id f.end ∷ [])))))))

unfoldable pub events_of_frames : Version → List Frame → List Ev
events_of_frames v [] = []
events_of_frames v (f ∷ fs) = events_of_frame v f ++ events_of_frames v fs

-- a block: its bytes, how many are codes, what they are a part of, and 1 for the last block, else 0
abbrev pub block_event : ℕ → Block → Ev
block_event last b = record { code = code_of MessageSplitter; payload = b.bytes ++ (be 2 b.used ++ (code_of GeckoCodes ∷ last ∷ [])) }

unfoldable pub codes_events : List Block → List Ev
codes_events [] = []
codes_events (b ∷ []) = block_event 1 b ∷ []
codes_events (b ∷ c ∷ bs) = block_event 0 b ∷ codes_events (c ∷ bs)

abbrev pub start_event : List ℕ → Ev
start_event bytes = record { code = code_of GameStart; payload = bytes }

abbrev pub end_event : List ℕ → Ev
end_event bytes = record { code = code_of GameEnd; payload = bytes }

-- a replay: GameStart, the blocks of codes, the frames, the ends
unfoldable pub events_of : Version → Replay → List Ev
events_of v r = start_event r.block ∷ (codes_events r.codes ++ (events_of_frames v r.frames ++ map end_event r.ends))

-- how many bytes of the blocks are codes
unfoldable pub used_in : List Block → ℕ
used_in [] = 0
used_in (b ∷ bs) = b.used + used_in bs

-- the blocks' bytes one after another
unfoldable pub codes_bytes : List Block → List ℕ
codes_bytes [] = []
codes_bytes (b ∷ bs) = b.bytes ++ codes_bytes bs

-- How much room to reserve for a replay before its game is known: what a file takes at most, from counts alone.
-- Assumes nothing.
use Rattle.std.specs.Prelude.{ℕ, zero, suc, ◌+◌, ◌*◌, ◌/◌, ◌≤◌, ◌≡◌, true, cond, List, [], ◌∷◌, map, ltb, eqb, length, replicate}
use Rattle.format.specs.File.{table_bytes}
use Rattle.format.specs.Refusal.{Refusal, refuse, lowest}
use Rattle.format.specs.declared.event.Event.{Event}
use Rattle.format.specs.declared.event.Event.TheVariants as event
use Rattle.layout.specs.Columns.{sum}
use Rattle.layout.specs.Payloads.{order, listed, payload_size, entries_of}
use Rattle.game.specs.Frames.{no_port}
use Rattle.game.specs.declared.frames.Frames.{Frames}
use Rattle.frames.specs.Judge.{too_new, too_many}
use Rattle.start.specs.Refusal.{block_wrong}
use Rattle.room.specs.declared.Plan.{Plan}
use Rattle.room.specs.declared.Reserved.{Reserved}

-- ---- the bytes

-- rows of a family with offsets: none without frames
abbrev pub with_frames : Plan → ℕ → ℕ
with_frames p rows = cond (eqb p.counts.frames 0) 0 rows

-- how many of each event: everybody present, the end doubled, code bytes rounded down to blocks of 512. Of GeckoCodes there is an entry in the table,
-- but no event; Payloads is the table itself
unfoldable pub how_many : Plan → Event → ℕ
how_many p event.Payloads = 1
how_many p event.GameStart = 1
how_many p event.FramePre = p.slots * p.counts.frames
how_many p event.FramePost = p.slots * p.counts.frames
how_many p event.GameEnd = 2
how_many p event.FrameStart = p.counts.frames
how_many p event.Item = with_frames p p.counts.items
how_many p event.FrameEnd = p.counts.frames
how_many p event.GeckoCodes = 0
how_many p event.MessageSplitter = p.codes / 512
how_many p event.FodPlatform = with_frames p p.counts.fods
how_many p event.DreamlandWhispy = with_frames p p.counts.whispys
how_many p event.StadiumTransformation = with_frames p p.counts.stadiums

-- their bytes: a code and a payload each; nothing for an event that the version's table does not list, codes given
unfoldable pub event_room : Plan → Event → ℕ
event_room p e = cond (listed p.version true e) (how_many p e * (1 + payload_size p.version p.block 0 e)) 0

-- signature and length; the table, with codes; the events; the metadata's key, body and brace, and the last brace
unfoldable pub room_of : Plan → ℕ
room_of p = 15 + (length (table_bytes (entries_of p.version p.block true 0)) + (sum (map (event_room p) order) + (13 + p.metadata)))

-- ---- the refusals, in their order

-- an input with these counts: 1 and 2 are judged as the writer does
abbrev pub counted : Plan → Frames
counted p = record { version = p.version; counts = p.counts; ports = replicate 4 no_port; port_count = 0 }

-- 7: more than eight slots
unfoldable pub room_refusals : Plan → List Refusal
room_refusals p =
    refuse 1 (too_new (counted p))
    ∷ refuse 2 (too_many (counted p) p.codes p.metadata)
    ∷ refuse 7 (ltb 8 p.slots)
    ∷ refuse 8 (block_wrong p.version p.block)
    ∷ []

-- ---- what the call answers: the refusal's number, or 0 and the bytes

abbrev pub room_answer : ℕ → ℕ → Reserved
room_answer zero n = record { refused = 0; bytes = n }
room_answer (suc k) n = record { refused = suc k; bytes = 0 }

abbrev pub reserved : Plan → Reserved
reserved p = room_answer (lowest (room_refusals p)) (room_of p)

-- ---- a plan within another: of the same version, and no count is above the other's
pub record AtMost (p q : Plan) : Type 0 where
  pub version : p.version ≡ q.version
  pub block : p.block ≤ q.block
  pub slots : p.slots ≤ q.slots
  pub frames : p.counts.frames ≤ q.counts.frames
  pub items : p.counts.items ≤ q.counts.items
  pub fods : p.counts.fods ≤ q.counts.fods
  pub whispys : p.counts.whispys ≤ q.counts.whispys
  pub stadiums : p.counts.stadiums ≤ q.counts.stadiums
  pub codes : p.codes ≤ q.codes
  pub metadata : p.metadata ≤ q.metadata

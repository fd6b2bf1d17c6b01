-- Small frames, computed: who has columns, and their presence bytes.
-- Assumes nothing.
use mathlib.Core.Path.{◌≡◌, refl}
use mathlib.Core.List.{List, [], ◌∷◌}
use Prim.Native.Nat.{ℕ}
use Rattle.wire.specs.Wire.{ranged, keep, tabulate}
use Rattle.format.specs.Version.{version, gte_of, above}
use Rattle.layout.specs.Columns.{has_family}
use Rattle.layout.specs.declared.columns.Family.TheVariants.{Item}
use Rattle.game.specs.Frames.{slot, slots_of, slots_from, port_slots, port_bytes, ports_of}
use Rattle.grammar.specs.Productions.{Player, Frame}
use Rattle.columns.specs.Columns.{holds, ever_in, players_at, port_columns, frames_read, slots_presence, presence_bytes, bits_from, totals, offsets_read}
use Rattle.law_columns.specs.Slots.{seated, slot_numbers}

-- a player without rows, and a frame of players and items
abbrev player : ℕ → ℕ → Player
player p f = record { port = p; follower = f; pre = []; post = [] }

abbrev frame : List Player → List (List ℕ) → Frame
frame ps items = record { id = 0; start = []; players = ps; fods = []; whispys = []; stadiums = []; items = items; end = [] }

-- port 0 is there at first; a follower of port 2 is there without its leader, from the second frame on
abbrev frames : List Frame
frames = frame (player 0 0 ∷ []) ([] ∷ []) ∷ frame (player 0 0 ∷ player 2 1 ∷ []) [] ∷ frame (player 2 1 ∷ []) ([] ∷ [] ∷ []) ∷ []

-- the leader of port 2 has columns, too; port 1 and port 3 have none
pub numbers : slot_numbers frames ≡ 0 ∷ 4 ∷ 5 ∷ []
unfolding slot_numbers seated ever_in holds ranged keep
numbers = refl

pub slots : slots_of (frames_read (version 3 0 0) frames) ≡ slot 0 0 0 1 ∷ slot 2 0 1 1 ∷ slot 2 1 2 1 ∷ []
unfolding slots_of slots_from port_slots port_bytes ports_of tabulate frames_read port_columns ever_in holds ranged keep
slots = refl

-- frames 0 and 1; none; frames 1 and 2
pub presence : slots_presence frames (slots_of (frames_read (version 3 0 0) frames)) ≡ 3 ∷ 0 ∷ 6 ∷ []
unfolding slots_of slots_from port_slots port_bytes ports_of tabulate frames_read port_columns ever_in holds ranged keep slots_presence presence_bytes bits_from players_at
presence = refl

-- an item, none, and two; before 3.0 there are no offsets
pub item_offsets : offsets_read (version 3 0 0) Item frames ≡ 0 ∷ 1 ∷ 1 ∷ 3 ∷ []
unfolding offsets_read totals has_family gte_of above keep
item_offsets = refl

pub no_offsets : offsets_read (version 2 2 0) Item frames ≡ []
unfolding offsets_read totals has_family gte_of above keep
no_offsets = refl

-- no frames: nobody has columns, and offsets have one entry
pub nobody_there : slot_numbers [] ≡ []
unfolding slot_numbers seated ever_in ranged keep
nobody_there = refl

pub one_entry : offsets_read (version 3 0 0) Item [] ≡ 0 ∷ []
unfolding offsets_read totals has_family gte_of above keep
one_entry = refl

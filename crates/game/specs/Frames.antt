-- The frame input: its port columns, its slots, and how many rows each family has.
-- Assumes nothing.
use Rattle.std.specs.Prelude.{ℕ, ◌+◌, ◌/◌, ◌%◌, ◌^◌, min, Bool, not, cond, List, [], ◌∷◌, ◌++◌, eqb, length, get_or}
use Rattle.wire.specs.Wire.{keep, tabulate}
use Rattle.layout.specs.declared.columns.Family.{Family}
use Rattle.layout.specs.declared.columns.Family.TheVariants.{Pre, Post, FrameStart, Item, FrameEnd, FodPlatform, DreamlandWhispy, StadiumTransformation}
use Rattle.game.specs.declared.frames.PortColumn.{PortColumn}
use Rattle.game.specs.declared.frames.Frames.{Frames}

-- a port column that is not there
abbrev pub no_port : PortColumn
no_port = record { port = 0; follower = 0; leader_presence = 0; follower_presence = 0 }

-- the port columns; of more than four, which are refused, the first four
unfoldable pub ports_of : Frames → List PortColumn
ports_of f = tabulate (min 4 f.port_count) (λ k. get_or f.ports k no_port)

-- a port column has a follower where its mark is not 0
abbrev pub follows : PortColumn → Bool
follows p = not (eqb p.follower 0)

-- a player: the port, 0 for the leader and 1 for the follower, where its presence bytes begin, and how many they are
pub record Slot : Type 0 where
  pub port : ℕ
  pub follower : ℕ
  pub at : ℕ
  pub len : ℕ

abbrev pub slot : ℕ → ℕ → ℕ → ℕ → Slot
slot p f a n = record { port = p; follower = f; at = a; len = n }

-- the slots of a port column, whose presence bytes begin at index at: the leader, then the follower where there is one
unfoldable pub port_slots : ℕ → PortColumn → List Slot
port_slots at p =
    slot p.port 0 at p.leader_presence
    ∷ keep (follows p) (slot p.port 1 (at + p.leader_presence) p.follower_presence ∷ [])

-- how many presence bytes they have
unfoldable pub port_bytes : PortColumn → ℕ
port_bytes p = p.leader_presence + cond (follows p) p.follower_presence 0

-- the slots of the port columns in order, their presence bytes one after another
unfoldable pub slots_from : ℕ → List PortColumn → List Slot
slots_from at [] = []
slots_from at (p ∷ ps) = port_slots at p ++ slots_from (at + port_bytes p) ps

unfoldable pub slots_of : Frames → List Slot
slots_of f = slots_from 0 (ports_of f)

-- slot k is one of those that a number marks: bit k is set
unfoldable pub is_marked : ℕ → ℕ → Bool
is_marked slots k = eqb (slots / 2 ^ k % 2) 1

-- no slot
abbrev pub no_slot : Slot
no_slot = slot 0 0 0 0

-- the k-th slot
abbrev pub slot_at : Frames → ℕ → Slot
slot_at f k = get_or (slots_of f) k no_slot

-- a family's rows, in each of its blocks: Pre and Post have a block for each slot
abbrev pub rows_of : Frames → Family → ℕ
rows_of f Pre = f.counts.frames
rows_of f Post = f.counts.frames
rows_of f FrameStart = f.counts.frames
rows_of f Item = f.counts.items
rows_of f FrameEnd = f.counts.frames
rows_of f FodPlatform = f.counts.fods
rows_of f DreamlandWhispy = f.counts.whispys
rows_of f StadiumTransformation = f.counts.stadiums

abbrev pub slot_blocks : Frames → Family → ℕ
slot_blocks f Pre = length (slots_of f)
slot_blocks f Post = length (slots_of f)
slot_blocks f FrameStart = 1
slot_blocks f Item = 1
slot_blocks f FrameEnd = 1
slot_blocks f FodPlatform = 1
slot_blocks f DreamlandWhispy = 1
slot_blocks f StadiumTransformation = 1

-- What functions over the players and their frames ask and promise: the slots as the code holds them, presence bytes that are there, and counts.
-- Assumes nothing.
use Rattle.std.specs.Prelude.{ℕ, ◌+◌, ◌*◌, ◌≤◌, ◌<◌, ◌≡◌, List, ◌++◌, length, get_or}
use Rattle.wire.specs.Wire.{tabulate}
use Rattle.game.specs.Frames.{Slot, slot, slots_of}
use Rattle.game.specs.declared.frames.Frames.{Frames}
use Rattle.players.specs.declared.slots.Slots.{Slots}

-- slots as the code holds them: an array of eight for each of their numbers, and how many there are
abbrev pub slot_in : Slots → ℕ → Slot
slot_in s k = slot (get_or s.ports k 0) (get_or s.followers k 0) (get_or s.at k 0) (get_or s.len k 0)

abbrev pub slots_in : Slots → List Slot
slots_in s = tabulate s.count (slot_in s)

pub record Eight (s : Slots) : Type 0 where
  pub ports : length s.ports ≡ 8
  pub followers : length s.followers ≡ 8
  pub at : length s.at ≡ 8
  pub len : length s.len ≡ 8

-- t is s with more slots after its own
pub record Grown (s t : Slots) (more : List Slot) : Type 0 where
  pub count : t.count ≡ s.count + length more
  pub listed : slots_in t ≡ slots_in s ++ more
  pub eight : Eight t

-- s has an input's slots
pub record Slotted (f : Frames) (s : Slots) : Type 0 where
  pub count : s.count ≡ length (slots_of f)
  pub few : s.count ≤ 8
  pub listed : slots_in s ≡ slots_of f
  pub eight : Eight s

-- the len presence bytes from index at on are there, and are none or enough for the frames
pub record Covers (bits : List ℕ) (at len frames : ℕ) : Type 0 where
  pub inside : at + len ≤ length bits
  pub enough : (len ≡ 0 → ⊥) → frames ≤ 8 * len

-- the counts are within their maxima
pub record Modest (f : Frames) : Type 0 where
  pub frames : f.counts.frames ≤ 1048576
  pub items : f.counts.items ≤ 4194304
  pub fods : f.counts.fods ≤ 1048576
  pub whispys : f.counts.whispys ≤ 1048576
  pub stadiums : f.counts.stadiums ≤ 1048576

-- offsets that give each frame a range of the rows
pub record Ranges (frames rows : ℕ) (os : List ℕ) : Type 0 where
  pub entries : length os ≡ frames + 1
  pub first : get_or os 0 0 ≡ 0
  pub rising : (i : ℕ) → i < frames → get_or os i 0 ≤ get_or os (i + 1) 0
  pub inside : (i : ℕ) → i ≤ frames → get_or os i 0 ≤ rows
  pub last : get_or os frames 0 ≡ rows

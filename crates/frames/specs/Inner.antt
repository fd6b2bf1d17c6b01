-- What an accepted input is known to be, and what the judge's functions promise each other.
-- Assumes nothing.
use Rattle.std.specs.Prelude.{ℕ, ◌+◌, ◌*◌, ◌^◌, ◌≤◌, ◌<◌, ◌≡◌, true, false, List, length, get_or, take}
use Rattle.format.specs.Version.{accepted_of}
use Rattle.layout.specs.Columns.{has_family, widths_of}
use Rattle.layout.specs.Inner.{expand}
use Rattle.layout.specs.declared.listing.Runs.{Runs}
use Rattle.layout.specs.declared.columns.Family.{Family}
use Rattle.layout.specs.declared.columns.Family.TheVariants.{Item, FodPlatform, DreamlandWhispy, StadiumTransformation}
use Rattle.game.specs.Frames.{no_port, no_slot, slots_of, rows_of, slot_blocks}
use Rattle.players.specs.Inner.{Covers, Modest, Ranges}
use Rattle.game.specs.Stores.{Lent, cells_of}
use Rattle.players.specs.Presence.{ports_uneven, presence_wrong}
use Rattle.game.specs.declared.frames.Frames.{Frames}

-- a family's store has a cell for each column and row of its blocks, and none exceeds its column's width
pub record Stored (f : Frames) (family : Family) (cells : List ℕ) : Type 0 where
  pub size : length cells ≡ slot_blocks f family * (length (widths_of family f.version) * rows_of f family)
  pub narrow : (block column row : ℕ) → block < slot_blocks f family → column < length (widths_of family f.version) → row < rows_of f family
      → get_or cells ((block * length (widths_of family f.version) + column) * rows_of f family + row) 0 < 256 ^ get_or (widths_of family f.version) column 0

-- a family's offsets: ranges, or nothing where the version lacks the family
pub record Placed (f : Frames) (family : Family) (os : List ℕ) : Type 0 where
  pub has : has_family f.version family ≡ true → Ranges f.counts.frames (rows_of f family) os
  pub lacks : has_family f.version family ≡ false → (rows_of f family ≡ 0) × (length os ≡ 0)

-- four port columns at most, with ports that are at most 3, and no two the same
pub record Ported (f : Frames) : Type 0 where
  pub few : f.port_count ≤ 4
  pub low : (k : ℕ) → k < f.port_count → (get_or f.ports k no_port).port ≤ 3
  pub distinct : (j k : ℕ) → j < k → k < f.port_count → (get_or f.ports j no_port).port ≡ (get_or f.ports k no_port).port → ⊥

-- presence bytes that are counted right, and cover each slot
pub record Attended (f : Frames) (bits : List ℕ) : Type 0 where
  pub even : ports_uneven f ≡ false
  pub right : presence_wrong f bits ≡ false
  pub covers : (k : ℕ) → k < length (slots_of f) → Covers bits (get_or (slots_of f) k no_slot).at (get_or (slots_of f) k no_slot).len f.counts.frames

-- refusals 1 to 7 do not apply
pub record Accepted (f : Frames) (s : Lent) : Type 0 where
  pub version : accepted_of f.version ≡ true
  pub modest : Modest f
  pub ids : length s.cells.ids ≡ f.counts.frames
  pub stores : (family : Family) → Stored f family (cells_of s.cells family)
  pub items : Placed f Item s.offsets.items
  pub fods : Placed f FodPlatform s.offsets.fods
  pub whispys : Placed f DreamlandWhispy s.offsets.whispys
  pub stadiums : Placed f StadiumTransformation s.offsets.stadiums
  pub presence : Attended f s.presence
  pub ports : Ported f

-- the widths that runs stand for, one after another, and runs that have them all
abbrev pub run_widths : Runs → List ℕ
run_widths p = expand (take p.count p.widths) (take p.count p.lengths)

pub record Whole (p : Runs) : Type 0 where
  pub columns : p.columns ≡ length (run_widths p)
  pub few : p.count ≤ 32
  pub widths : length p.widths ≡ 32
  pub lengths : length p.lengths ≡ 32

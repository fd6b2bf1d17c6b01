-- A small game that is a part of a large one: the frames from a on and before b, with rows, offsets and presence of their own.
-- Assumes nothing.
use Rattle.std.specs.Prelude.{ℕ, ◌+◌, ◌*◌, ◌≤◌, ◌<◌, ◌≡◌, true, List, length, get_or}
use Rattle.layout.specs.Columns.{has_family, widths_of}
use Rattle.layout.specs.declared.columns.Family.{Family}
use Rattle.layout.specs.declared.columns.Family.TheVariants.{Pre, Post, FrameStart, Item, FrameEnd, FodPlatform, DreamlandWhispy, StadiumTransformation}
use Rattle.game.specs.Frames.{slots_of, rows_of, slot_blocks, slot_at}
use Rattle.game.specs.Stores.{Lent, cells_of}
use Rattle.game.specs.declared.frames.Frames.{Frames}
use Rattle.players.specs.Presence.{present_at}

-- the first row of the part in a family's store: that of frame a, or that from which frame a's rows begin
abbrev pub first_row : Lent → ℕ → Family → ℕ
first_row s a Pre = a
first_row s a Post = a
first_row s a FrameStart = a
first_row s a FrameEnd = a
first_row s a Item = get_or s.offsets.items a 0
first_row s a FodPlatform = get_or s.offsets.fods a 0
first_row s a DreamlandWhispy = get_or s.offsets.whispys a 0
first_row s a StadiumTransformation = get_or s.offsets.stadiums a 0

-- offsets begin anew at 0: those of the part are the large game's less the first of them
abbrev pub Counted : Frames → List ℕ → ℕ → Frames → List ℕ → Family → Type 0
Counted f os a small own family = has_family f.version family ≡ true → (j : ℕ) → j ≤ small.counts.frames → get_or own j 0 + get_or os a 0 ≡ get_or os (a + j) 0

pub record Part (f : Frames) (s : Lent) (a b : ℕ) (small : Frames) (own : Lent) : Type 0 where
  pub version : small.version ≡ f.version
  pub frames : a + small.counts.frames ≡ b
  pub within : b ≤ f.counts.frames
  -- the same players in the same order, each there in the same frames
  pub slots : length (slots_of small) ≡ length (slots_of f)
  pub ports : (k : ℕ) → k < length (slots_of f) → (slot_at small k).port ≡ (slot_at f k).port
  pub followers : (k : ℕ) → k < length (slots_of f) → (slot_at small k).follower ≡ (slot_at f k).follower
  pub present : (k j : ℕ) → k < length (slots_of f) → j < small.counts.frames
      → present_at own.presence (slot_at small k) j ≡ present_at s.presence (slot_at f k) (a + j)
  -- the same ids, and of each column the part's rows
  pub ids : (j : ℕ) → j < small.counts.frames → get_or own.cells.ids j 0 ≡ get_or s.cells.ids (a + j) 0
  pub cells : (family : Family) (c j : ℕ) → c < slot_blocks f family * length (widths_of family f.version) → j < rows_of small family
      → get_or (cells_of own.cells family) (c * rows_of small family + j) 0 ≡ get_or (cells_of s.cells family) (c * rows_of f family + (first_row s a family + j)) 0
  pub items : Counted f s.offsets.items a small own.offsets.items Item
  pub fods : Counted f s.offsets.fods a small own.offsets.fods FodPlatform
  pub whispys : Counted f s.offsets.whispys a small own.offsets.whispys DreamlandWhispy
  pub stadiums : Counted f s.offsets.stadiums a small own.offsets.stadiums StadiumTransformation

-- What is read back of a game's frames, against what was given: field by field.
-- Assumes nothing.
use Rattle.std.specs.Prelude.{ℕ, ◌+◌, ◌*◌, ◌/◌, ◌%◌, ◌≤◌, ◌<◌, ◌≡◌, Bool, true, false, ◌&&◌, ◌||◌, List, [], ◌∷◌, eqb, length, get_or}
use Rattle.layout.specs.Columns.{widths_of}
use Rattle.layout.specs.declared.columns.Family.{Family}
use Rattle.layout.specs.declared.columns.Family.TheVariants.{Pre, Post}
use Rattle.game.specs.Frames.{Slot, slots_of, rows_of, slot_at}
use Rattle.game.specs.Stores.{Lent, cells_of}
use Rattle.game.specs.declared.frames.Frames.{Frames}
use Rattle.players.specs.Presence.{present_at}
use Rattle.columns.specs.Columns.{slot_number}

-- one of these slots has number k and is present in frame i
unfoldable pub shown_by : List ℕ → List Slot → ℕ → ℕ → Bool
shown_by bits [] k i = false
shown_by bits (s ∷ ss) k i = (eqb (slot_number s) k && present_at bits s i) || shown_by bits ss k i

-- the player of slot number k, two for each port, is in frame i
abbrev pub in_frame : Frames → Lent → ℕ → ℕ → Bool
in_frame f s k i = shown_by s.presence (slots_of f) k i

-- in some frame
pub record Appears (f : Frames) (s : Lent) (k : ℕ) : Type 0 where
  pub frame : ℕ
  pub inside : frame < f.counts.frames
  pub there : in_frame f s k frame ≡ true

-- why there are columns of slot number k: its player appears, or it is a leader's, and the follower appears
pub data Wanted (f : Frames) (s : Lent) (k : ℕ) : Type 0 where
  plays : Appears f s k → Wanted f s k
  leads : k % 2 ≡ 0 → Appears f s (k + 1) → Wanted f s k

-- the j-th slot's cell of column c in frame i
abbrev pub cell_at : Frames → Lent → Family → ℕ → ℕ → ℕ → ℕ
cell_at f s family j c i = get_or (cells_of s.cells family) ((j * length (widths_of family f.version) + c) * f.counts.frames + i) 0

-- a player's cells of a family: in a frame that he is in, those that were given; else zeros
pub record PlayersReturned (f : Frames) (s : Lent) (f' : Frames) (s' : Lent) (family : Family) : Type 0 where
  pub present : (j j' c i : ℕ) → j < length (slots_of f) → j' < length (slots_of f') → c < length (widths_of family f.version) → i < f.counts.frames
      → slot_number (slot_at f j) ≡ slot_number (slot_at f' j') → present_at s.presence (slot_at f j) i ≡ true
      → cell_at f' s' family j' c i ≡ cell_at f s family j c i
  pub absent : (j' c i : ℕ) → j' < length (slots_of f') → c < length (widths_of family f.version) → i < f.counts.frames
      → present_at s'.presence (slot_at f' j') i ≡ false → cell_at f' s' family j' c i ≡ 0

-- f and s were given, f' and s' are read back
pub record Returned (f : Frames) (s : Lent) (f' : Frames) (s' : Lent) : Type 0 where
  -- the same: version, counts, ids, every row that is no player's, and offsets
  pub version : f'.version ≡ f.version
  pub frames : f'.counts.frames ≡ f.counts.frames
  pub rows : (family : Family) → rows_of f' family ≡ rows_of f family
  pub ids : s'.cells.ids ≡ s.cells.ids
  pub starts : s'.cells.starts ≡ s.cells.starts
  pub ends : s'.cells.ends ≡ s.cells.ends
  pub items : s'.cells.items ≡ s.cells.items
  pub fods : s'.cells.fods ≡ s.cells.fods
  pub whispys : s'.cells.whispys ≡ s.cells.whispys
  pub stadiums : s'.cells.stadiums ≡ s.cells.stadiums
  pub offsets : s'.offsets ≡ s.offsets
  -- the players: who is in which frame, and their rows
  pub present : (k i : ℕ) → i < f.counts.frames → in_frame f' s' k i ≡ in_frame f s k i
  pub pres : PlayersReturned f s f' s' Pre
  pub posts : PlayersReturned f s f' s' Post
  -- no columns of a player who never appears, but of a leader beside a follower who does
  pub wanted : (j : ℕ) → j < length (slots_of f') → Wanted f s (slot_number (slot_at f' j))
  -- presence bytes are never left out, and bits behind the last frame are 0
  pub given : (j : ℕ) → j < length (slots_of f') → (slot_at f' j).len ≡ (f.counts.frames + 7) / 8
  pub spare : (j i : ℕ) → j < length (slots_of f') → f.counts.frames ≤ i → i < 8 * (slot_at f' j).len → present_at s'.presence (slot_at f' j) i ≡ false

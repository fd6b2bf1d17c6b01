-- What the functions ask and promise each other: a frame's length by counts, marks of a window of ids, and sums over rows that are not final.
-- Assumes nothing.
use Rattle.std.specs.Prelude.{ℕ, suc, ◌+◌, ◌-◌, ◌/◌, ◌%◌, ◌^◌, ◌≤◌, ◌<◌, ◌≡◌, Bool, cond, ◌&&◌, List, eqb, leb, ltb, length, get_or, set, drop}
use Rattle.std.specs.Int.Bits.{bit_or}
use Rattle.format.specs.declared.version.Version.{Version}
use Rattle.layout.specs.declared.columns.Family.TheVariants.{Pre, Post, FrameStart, Item, FrameEnd, FodPlatform, DreamlandWhispy, StadiumTransformation}
use Rattle.game.specs.Stores.{Offsets}
use Rattle.game.specs.declared.frames.Frames.{Frames}
use Rattle.players.specs.Inner.{Slotted, Modest}
use Rattle.players.specs.declared.slots.Slots.{Slots}
use Rattle.frames.specs.Inner.{Placed}
use Rattle.events.specs.Length.{event_size, run_length}
use Rattle.rollback.specs.Mask.{occurs, place, needed}
use Rattle.wire.proofs.Sums.{summed}
use Rattle.final_rows.specs.declared.sizes.Sizes.{Sizes}

-- ---- lengths

-- of the events of frame i
abbrev pub length_of : Frames → Offsets → List ℕ → ℕ → ℕ
length_of f o bits i = run_length f o bits i (i + 1)

pub record Sized (v : Version) (z : Sizes) : Type 0 where
  pub frame : z.frame ≡ event_size v FrameStart + event_size v FrameEnd
  pub player : z.player ≡ event_size v Pre + event_size v Post
  pub item : z.item ≡ event_size v Item
  pub fod : z.fod ≡ event_size v FodPlatform
  pub whispy : z.whispy ≡ event_size v DreamlandWhispy
  pub stadium : z.stadium ≡ event_size v StadiumTransformation
  pub small : (z.frame ≤ 512) × (z.player ≤ 512) × (z.item ≤ 256) × (z.fod ≤ 256) × (z.whispy ≤ 256) × (z.stadium ≤ 256)

-- what is known of an accepted input whose ids are in range
pub record Countable (f : Frames) (s : Slots) (ids : List ℕ) (o : Offsets) (bits : List ℕ) : Type 0 where
  pub modest : Modest f
  pub slots : Slotted f s
  pub items : Placed f Item o.items
  pub fods : Placed f FodPlatform o.fods
  pub whispys : Placed f DreamlandWhispy o.whispys
  pub stadiums : Placed f StadiumTransformation o.stadiums
  pub ids_are : length ids ≡ f.counts.frames
  pub range : needed ids ≤ 1048576
  pub total : summed (length_of f o bits) 0 (length ids) ≤ 17179869184

-- ---- windows

-- a place is one of the 32,768 from base on
abbrev pub in_window : ℕ → ℕ → Bool
in_window base p = leb base p && ltb (p - base) 32768

-- a bit a place, eight a byte
unfoldable pub bit_at : List ℕ → ℕ → Bool
bit_at marks q = eqb (get_or marks (q / 8) 0 / 2 ^ (q % 8) % 2) 1

unfoldable pub with_bit : List ℕ → ℕ → List ℕ
with_bit marks q = set marks (q / 8) (bit_or (get_or marks (q / 8) 0) (2 ^ (q % 8)))

unfoldable pub seen_after : ℕ → ℕ → List ℕ → List ℕ
seen_after base p marks = cond (in_window base p) (with_bit marks (p - base)) marks

-- ---- rows that are not final: a later row has the same id

abbrev pub is_lost : List ℕ → ℕ → Bool
is_lost ids i = occurs (get_or ids i 0) (drop (suc i) ids)

-- and whose id is one of the window's
abbrev pub lost_here : List ℕ → ℕ → ℕ → Bool
lost_here ids base i = in_window base (place (get_or ids i 0)) && is_lost ids i

abbrev pub lost_in : Frames → List ℕ → Offsets → List ℕ → ℕ → ℕ
lost_in f ids o bits base = summed (λ i. cond (lost_here ids base i) (length_of f o bits i) 0) 0 (length ids)

abbrev pub lost_length : Frames → List ℕ → Offsets → List ℕ → ℕ
lost_length f ids o bits = summed (λ i. cond (is_lost ids i) (length_of f o bits i) 0) 0 (length ids)

-- the window's rows from k on that are not final have 1, and the others are as they were
pub record Lost (ids : List ℕ) (base k : ℕ) (before after : List ℕ) : Type 0 where
  pub long : length after ≡ length before
  pub at : (i : ℕ) → i < length ids → get_or after i 0 ≡ cond (leb k i && lost_here ids base i) 1 (get_or before i 0)

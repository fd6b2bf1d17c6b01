-- What comes back of a game and its stores when its file is read, field by field.
-- Assumes nothing.
use Rattle.std.specs.Prelude.{ℕ, ◌<◌, ◌≡◌, true, false, cond, ◌&&◌, get_or}
use Rattle.wire.specs.Wire.{keep}
use Rattle.format.specs.Version.{has_initiator, has_placements}
use Rattle.format.specs.Mark.{yes}
use Rattle.format.specs.declared.version.Version.{Version}
use Rattle.game.specs.Zero.{no_end}
use Rattle.game.specs.Stores.{Stores}
use Rattle.game.specs.declared.Game.{Game}
use Rattle.game.specs.declared.end.End.{End}
use Rattle.law_start.specs.Returned.{StartReturned}
use Rattle.read_outline.specs.End.{four_zeros}
use Rattle.law_columns.specs.Returned as frames

-- whether port i is placed in an end, and where
abbrev pub placed_at : End → ℕ → ℕ
placed_at e i = get_or e.placed i 0

abbrev pub placement_at : End → ℕ → ℕ
placement_at e i = get_or e.placements i 0

-- the end r for the end e that was given: one who was not placed, and a placement FF, come back as none
pub record EndReturned (v : Version) (e r : End) : Type 0 where
  pub given : r.given ≡ 1
  pub method : r.method ≡ e.method
  pub initiator : has_initiator v ≡ true → r.initiator ≡ e.initiator
  pub no_initiator : has_initiator v ≡ false → r.initiator ≡ 0xFF
  pub placed : has_placements v ≡ true → (i : ℕ) → i < 4 → (placed_at e i ≡ 0 → ⊥) → (placement_at e i ≡ 0xFF → ⊥) → (placed_at r i ≡ 1) × (placement_at r i ≡ placement_at e i)
  pub nowhere : has_placements v ≡ true → (i : ℕ) → i < 4 → (placed_at e i ≡ 0 → ⊥) → placement_at e i ≡ 0xFF → (placed_at r i ≡ 0) × (placement_at r i ≡ 0)
  pub absent : has_placements v ≡ true → (i : ℕ) → i < 4 → placed_at e i ≡ 0 → (placed_at r i ≡ 0) × (placement_at r i ≡ 0)
  pub no_placements : has_placements v ≡ false → (r.placed ≡ four_zeros) × (r.placements ≡ four_zeros)

-- g and s were given to `write`, g' and s' are read. Marks come back as 0 and 1; what is not given comes back as nothing
pub record GameReturned (g : Game) (s : Stores) (g' : Game) (s' : Stores) : Type 0 where
  pub frames : frames.Returned g.frames s.lent g'.frames s'.lent
  pub start : StartReturned g.frames.version g.start g'.start
  pub end : yes g.end.given ≡ true → EndReturned g.frames.version g.end g'.end
  pub no_end : yes g.end.given ≡ false → g'.end ≡ no_end
  pub double : g'.double_end ≡ cond (yes g.end.given && yes g.double_end) 1 0
  pub codes_given : g'.codes_given ≡ cond (yes g.codes_given) 1 0
  pub codes : s'.codes ≡ keep (yes g.codes_given) s.codes
  pub actual_size : g'.actual_size ≡ cond (yes g.codes_given) g.actual_size 0
  pub metadata_given : g'.metadata_given ≡ cond (yes g.metadata_given) 1 0
  pub metadata : s'.metadata ≡ keep (yes g.metadata_given) s.metadata

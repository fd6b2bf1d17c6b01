-- The games that request 2026-01 is about: those that `write` accepts, within its limits. That seat texts hold no zero byte, which the request asks too, is no
-- limit any more: `write` refuses 9 for such a text, so that acceptance says it.
-- Assumes nothing.
use Rattle.std.specs.Prelude.{ℕ, ◌+◌, ◌*◌, ◌^◌, ◌<◌, ◌≡◌, true, false, length, get_or}
use Rattle.format.specs.Mark.{yes}
use Rattle.layout.specs.Columns.{has_family}
use Rattle.layout.specs.declared.columns.Family.TheVariants.{FrameStart}
use Rattle.game.specs.Frames.{no_port, no_slot, slots_of}
use Rattle.game.specs.Stores.{Lent, Stores}
use Rattle.game.specs.Zero.{no_seat}
use Rattle.game.specs.declared.Game.{Game}
use Rattle.game.specs.declared.frames.Frames.{Frames}
use Rattle.players.specs.Presence.{present_at}
use Rattle.read_start.specs.Start.{byte_at}
use Rattle.law_start.specs.Declared.{U8, BytesDeclared, Declared}
use Rattle.ser.specs.Write.{refusal}

-- somebody is in frame i: the presence of one of the slots says so
pub record Somebody (f : Frames) (s : Lent) (i : ℕ) : Type 0 where
  pub slot : ℕ
  pub there : slot < length (slots_of f)
  pub present : present_at s.presence (get_or (slots_of f) slot no_slot) i ≡ true

pub record Admitted (g : Game) (s : Stores) : Type 0 where
  -- `write` accepts it, given this much room
  pub room : ℕ
  pub accepted : refusal g s room ≡ 0
  -- its numbers are as wide as their types say
  pub major : U8 g.frames.version.major
  pub minor : U8 g.frames.version.minor
  pub patch : U8 g.frames.version.patch
  pub ids : (i : ℕ) → get_or s.lent.cells.ids i 0 < 2 ^ 32
  pub start : Declared g.start
  pub template : BytesDeclared s.template
  -- its ports ascend, and a seat that is not given has type 3 in the template
  pub order : (j k : ℕ) → j < k → k < g.frames.port_count → (get_or g.frames.ports j no_port).port < (get_or g.frames.ports k no_port).port
  pub empty : (n : ℕ) → n < 4 → yes (get_or g.start.seats n no_seat).given ≡ false → byte_at s.template (101 + 36 * n) ≡ 3
  -- before 2.2 neighbouring frames have unlike ids, and each has somebody in it
  pub changing : has_family g.frames.version FrameStart ≡ false → (i : ℕ) → i + 1 < g.frames.counts.frames
      → get_or s.lent.cells.ids i 0 ≡ get_or s.lent.cells.ids (i + 1) 0 → ⊥
  pub somebody : has_family g.frames.version FrameStart ≡ false → (i : ℕ) → i < g.frames.counts.frames → Somebody g.frames s.lent i

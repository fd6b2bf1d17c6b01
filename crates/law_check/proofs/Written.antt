-- Every file that `write` gives passes the check, given a metadata body that 2026-05 reads.
-- Assumes nothing.
use Prim.Native.Nat.{ℕ, ◌^◌, ◌<◌}
use mathlib.Core.Path.{◌≡◌, refl}
use mathlib.Core.Bool.{true}
use lib.ListN.{get_or}
use Rattle.format.specs.Mark.{yes}
use Rattle.game.specs.Stores.{Stores}
use Rattle.game.specs.declared.Game.{Game}
use Rattle.map_reader.specs.Answer.{read_refusal}
use Rattle.map_reader.specs.Read as read
use Rattle.ser.specs.Write.{file, refusal}
use Rattle.grammar.specs.Sound.{Metadata, Sound}
use Rattle.law_tree.proofs.Good.{Bytes}
use Rattle.law_tree.proofs.Files as games
use Rattle.check_file.specs.Check.{sound, CheckOutcome}
use Rattle.check_file.specs.declared.Checked.{Checked}
use Rattle.check_file.proofs.Only.{only, metadata_read}

-- ids and version are numbers of four bytes and of one, as their types say
module _ (g : Game) (s : Stores) (room : ℕ) (accepted : refusal g s room ≡ 0) (ids : (i : ℕ) → get_or s.lent.cells.ids i 0 < 2 ^ 32) (version : Bytes g.frames.version) where
  pub written_sound : (yes g.metadata_given ≡ true → Metadata s.metadata) → Sound (file g s)
  written_sound m = games.sound g s room accepted ids version m

  pub passes : (cells : ℕ) → read.Bytes s.metadata → (yes g.metadata_given ≡ true → read_refusal s.metadata cells ≡ 0) → (r : Checked) → CheckOutcome (file g s) r
      → (r.refused ≡ 0) × (r.offset ≡ 0)
  passes cells bytes m r h = only (file g s) r.refused 0 r.offset 0 h (sound (written_sound (λ e. metadata_read s.metadata cells bytes (m e))) refl refl)

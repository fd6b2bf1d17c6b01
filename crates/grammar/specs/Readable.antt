-- What a replay must be, besides well formed, to be read back into columns (2026-01): conditions beside the productions.
-- Assumes nothing.
use Rattle.std.specs.Prelude.{ℕ, ◌+◌, ◌*◌, ◌≤◌, ◌<◌, ◌≡◌, true, false, List, [], ◌∷◌, get_or}
use Rattle.format.specs.Version.{has_initiator}
use Rattle.format.specs.declared.version.Version.{Version}
use Rattle.layout.specs.Columns.{has_family}
use Rattle.layout.specs.declared.columns.Family.TheVariants.{FrameStart}
use Rattle.ending.specs.End.{initiator_wrong}
use Rattle.grammar.specs.Productions.{Frame, Replay}
use Rattle.grammar.specs.WellFormed.{Each, ascending, WellFormed}

-- neighbouring frames have unlike ids
unfoldable pub Changing : List Frame → Type 0
Changing [] = Unit {0}
Changing (f ∷ []) = Unit {0}
Changing (f ∷ g ∷ fs) = (f.id ≡ g.id → ⊥) × Changing (g ∷ fs)

-- all are the same
unfoldable pub Alike : List (List ℕ) → Type 0
Alike [] = Unit {0}
Alike (a ∷ []) = Unit {0}
Alike (a ∷ b ∷ ends) = (a ≡ b) × Alike (b ∷ ends)

-- the type of the seat of port n: the second of its 36 bytes
abbrev pub seat_type : List ℕ → ℕ → ℕ
seat_type block n = get_or block (101 + 36 * n) 0

-- ports ascend; before 2.2, where a frame begins where the id changes, it does change; seat types go to 3; the ends are alike, and from 2.0 name an initiator from -1 to 3
pub record Readable (v : Version) (r : Replay) : Type 0 where
  pub well : WellFormed v ascending r
  pub changing : has_family v FrameStart ≡ false → Changing r.frames
  pub seats : (n : ℕ) → n < 4 → seat_type r.block n ≤ 3
  pub alike : Alike r.ends
  pub initiators : has_initiator v ≡ true → Each (λ bytes. initiator_wrong (get_or bytes 1 0) ≡ false) r.ends

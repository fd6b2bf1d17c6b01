-- Patches: bytes stored over a block, each from its offset on.
-- Assumes nothing.
use Rattle.std.specs.Prelude.{ℕ, List, [], ◌∷◌}
use Rattle.wire.specs.Wire.{splice}

pub record Patch : Type 0 where
  pub offset : ℕ
  pub bytes : List ℕ

abbrev pub patch : ℕ → List ℕ → Patch
patch offset bytes = record { offset = offset; bytes = bytes }

-- the block with the patches stored over it, one after the other; all else stays
unfoldable pub patched : List ℕ → List Patch → List ℕ
patched block [] = block
patched block (p ∷ ps) = patched (splice block p.offset p.bytes) ps

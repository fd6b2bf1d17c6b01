-- Gecko codes, in blocks of 512 bytes. The actual size says how many bytes are codes; the rest of the last block is padding.
-- Assumes nothing.
use Rattle.std.specs.Prelude.{ℕ, ◌+◌, ◌-◌, ◌*◌, ◌/◌, Bool, not, cond, ◌&&◌, ◌||◌, List, [], ◌∷◌, ◌++◌, ltb, eqb, length}
use Rattle.wire.specs.Wire.{be, part, ranged, keep}
use Rattle.format.specs.Version.{has_codes}
use Rattle.format.specs.Event.{code_of}
use Rattle.format.specs.File.{Ev}
use Rattle.format.specs.declared.version.Version.{Version}
use Rattle.format.specs.declared.event.Event.TheVariants.{GeckoCodes, MessageSplitter}

-- the actual size in blocks, rounded up
unfoldable pub block_count : ℕ → ℕ
block_count actual = (actual + 511) / 512

-- how many bytes of block b are codes: 512, or what is left of the actual size where that is less
unfoldable pub used : ℕ → ℕ → ℕ
used actual b = let rest = actual - 512 * b in cond (ltb 512 rest) 512 rest

-- 1 for the last block, else 0
unfoldable pub last_flag : ℕ → ℕ → ℕ
last_flag actual b = cond (eqb (b + 1) (block_count actual)) 1 0

-- what follows a block's bytes: how many of them are codes, the event that they are a part of, and the flag
abbrev pub block_end : ℕ → ℕ → List ℕ
block_end actual b = be 2 (used actual b) ++ (code_of GeckoCodes ∷ last_flag actual b ∷ [])

-- block b
unfoldable pub code_block : List ℕ → ℕ → ℕ → Ev
code_block codes actual b = record {
  code = code_of MessageSplitter;
  payload = part codes (512 * b) 512 ++ block_end actual b;
}

abbrev pub code_blocks : List ℕ → ℕ → List Ev
code_blocks codes actual = ranged (λ b. code_block codes actual b ∷ []) 0 (block_count actual)

-- the blocks of codes that are given
unfoldable pub code_events : Bool → List ℕ → ℕ → List Ev
code_events given codes actual = keep given (code_blocks codes actual)

-- 10: codes given before 3.3, or their bytes are not the actual size rounded up to 512
unfoldable pub codes_wrong : Version → Bool → List ℕ → ℕ → Bool
codes_wrong v given codes actual = given && (not (has_codes v) || not (eqb (length codes) (512 * block_count actual)))

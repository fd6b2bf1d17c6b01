-- The bytes of code blocks, part by part, and what makes codes wrong.
-- Assumes nothing.
use mathlib.Core.Path.{◌≡◌, refl, sym}
use mathlib.Core.Bool.{Bool, true, false}
use mathlib.Core.List.{List, [], ◌∷◌, ◌++◌}
use Prim.Native.Nat.{ℕ, ◌+◌, ◌-◌, ◌*◌}
use native.Mathlib.Nat.{sub-zero}
use native.Mathlib.Omega.{arith}
use lib.ListN.{length, take, drop}
use borrow.Author.Tests.{eqb-true}
use lib.Dec.{eqb}
use Rattle.wire.specs.Wire.{be, part, ranged, keep}
use Rattle.wire.proofs.Writers.{Left, left_start}
use Rattle.format.specs.Version.{gte_of}
use Rattle.format.specs.Event.{code_of}
use Rattle.format.specs.File.{event_bytes, events_bytes}
use Rattle.format.specs.declared.version.Version.{Version}
use Rattle.format.specs.declared.event.Event.TheVariants.{GeckoCodes, MessageSplitter}
use Rattle.format.proofs.Versions.{no_way}
use Rattle.format.proofs.Files.{events_keep, events_each}
use Rattle.codes.specs.Blocks.{block_count, used, last_flag, block_end, code_block, code_blocks, code_events, codes_wrong}

-- the bytes from 512 * b to 512 * b + 512
pub block_parts : (codes : List ℕ) (actual b c : ℕ) → c ≡ code_of MessageSplitter
    → event_bytes (code_block codes actual b) ≡ (c ∷ []) ++ (take (512 * b + 512 - 512 * b) (drop (512 * b) codes) ++ block_end actual b)
unfolding code_block part
block_parts codes actual b c e = let k : 512 * b + 512 - 512 * b ≡ 512 = omega arith in rw (e, k)

pub block_end_parts : (actual b u c f : ℕ) → u ≡ used actual b → c ≡ code_of GeckoCodes → f ≡ last_flag actual b
    → block_end actual b ≡ be 2 u ++ ((c ∷ []) ++ (f ∷ []))
block_end_parts actual b u c f p q r = rw (p, q, r)

-- a loop over the blocks starts with all of them left
pub blocks_start : {out : List ℕ} {at : ℕ} (codes : List ℕ) (actual n : ℕ) → n ≡ block_count actual
    → Left out at (events_bytes (code_blocks codes actual)) out at (ranged (λ b. event_bytes (code_block codes actual b)) 0 (n - 0))
blocks_start codes actual n e = rw (events_each (code_block codes actual) 0 (block_count actual), e, sub-zero (block_count actual)) left_start

pub code_bytes : (given : Bool) (codes : List ℕ) (actual : ℕ) → events_bytes (code_events given codes actual) ≡ keep given (events_bytes (code_blocks codes actual))
unfolding code_events
code_bytes given codes actual = events_keep given (code_blocks codes actual)

-- codes that are not refused: from 3.3 on, and in whole blocks
pub right_codes : (v : Version) (given : Bool) (codes : List ℕ) (actual : ℕ) → codes_wrong v given codes actual ≡ false → given ≡ true
    → (gte_of v 3 3 ≡ true) × (length codes ≡ 512 * block_count actual)
unfolding codes_wrong
right_codes v given codes actual w g = go (gte_of v 3 3) refl (eqb (length codes) (512 * block_count actual)) refl
  where
    go : (s : Bool) → gte_of v 3 3 ≡ s → (t : Bool) → eqb (length codes) (512 * block_count actual) ≡ t
        → (gte_of v 3 3 ≡ true) × (length codes ≡ 512 * block_count actual)
    go true x true y = (x, eqb-true (length codes) (512 * block_count actual) y)
    go true x false y = no_way (sym (rw (g, x, y) at w))
    go false x t y = no_way (sym (rw (g, x) at w))

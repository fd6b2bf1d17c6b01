-- How many bytes code blocks take.
-- Assumes nothing.
use mathlib.Core.Path.{◌≡◌, ap, ◌∙◌}
use mathlib.Core.Bool.{Bool, true, cond}
use mathlib.Core.List.{List}
use Prim.Native.Nat.{ℕ, suc, ◌*◌, ◌<◌}
use native.Mathlib.Omega.{arith}
use lib.ListN.{length, length-append, length-take, length-drop}
use Rattle.wire.specs.Wire.{part}
use Rattle.wire.proofs.Laws.{length_be, length_ranged_below, length_kept}
use Rattle.format.specs.File.{event_bytes, events_bytes}
use Rattle.format.proofs.Files.{events_each}
use Rattle.codes.specs.Blocks.{block_count, code_block, code_blocks, code_events}
use Rattle.codes.proofs.Laws.{code_bytes}

module _ (codes : List ℕ) (actual : ℕ) (whole : length codes ≡ 512 * block_count actual) where
  pub length_code_block : (b : ℕ) → b < block_count actual → length (code_block codes actual b).payload ≡ 516
  unfolding code_block part
  length_code_block b h = simp (length-append, length-take, length-drop, length_be) (omega arith)

  pub length_code_blocks : length (events_bytes (code_blocks codes actual)) ≡ block_count actual * 517
  length_code_blocks =
      ap length (events_each (code_block codes actual) 0 (block_count actual))
      ∙ length_ranged_below (λ b. event_bytes (code_block codes actual b)) 517 0 (block_count actual) (λ b h. ap suc (length_code_block b (omega arith)))

pub length_codes : (given : Bool) (codes : List ℕ) (actual : ℕ) → (given ≡ true → length codes ≡ 512 * block_count actual)
    → length (events_bytes (code_events given codes actual)) ≡ cond given (block_count actual * 517) 0
length_codes given codes actual whole =
    ap length (code_bytes given codes actual) ∙ length_kept given (events_bytes (code_blocks codes actual)) _ (λ g. length_code_blocks codes actual (whole g))

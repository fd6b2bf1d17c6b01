use mathlib.Core.Path.{◌∙◌}
use native.Mathlib.Omega.{arith}
use Rattle.read_event.proofs.Leaves.{in_block, block_in, player_put_lem, player_none, player_late, player_early, player_off}
use Rattle.read_event.proofs.seats.put_player.Goals as goal

pub block_at-block-requires : goal.block_at-block-requires
block_at-block-requires c = omega (arith, c.requires.0 c.if-on.true)

pub overflow_add-at : goal.overflow_add-at
overflow_add-at c = omega (arith, c.requires.0 c.if-on.true)

pub overflow_mul-widths : goal.overflow_mul-widths
overflow_mul-widths c = omega (arith, block_in _ _ c.block_at-block.result _ c.requires.1.room c.if-block-numbers.true, c.well_formed)

pub overflow_mul-block : goal.overflow_mul-block
overflow_mul-block c = omega (arith, block_in _ _ c.block_at-block.result _ c.requires.1.room c.if-block-numbers.true, c.well_formed)

pub overflow_add-block : goal.overflow_add-block
overflow_add-block c =
    omega (arith, block_in _ _ c.block_at-block.result _ c.requires.1.room c.if-block-numbers.true, c.well_formed, c.requires.2)

pub get-requires : goal.get-requires
get-requires c =
    (omega arith, in_block _ _ _ _ c.block_at-block.result _ c.requires.1 c.if-block-numbers.true (omega arith), c.requires.0 c.if-on.true)

pub returns-then-block-numbers : goal.returns-then-block-numbers
returns-then-block-numbers c = c.get.ensures.1 ∙ player_put_lem _ _ _ _ _ _ _ c.if-on.true (omega arith) (omega arith) c.block_at-block.ensures c.if-block-numbers.true

pub returns-else-block-numbers : goal.returns-else-block-numbers
returns-else-block-numbers c = player_none _ _ _ _ _ _ _ c.if-on.true (omega arith) (omega arith) c.block_at-block.ensures (omega arith)

pub returns-else-n-frames : goal.returns-else-n-frames
returns-else-n-frames c = player_late _ _ _ _ _ _ _ c.if-on.true (omega arith) (omega arith)

pub returns-else-n-gt0 : goal.returns-else-n-gt0
returns-else-n-gt0 c = player_early _ _ _ _ _ _ _ c.if-on.true (omega arith)

pub returns-else-on : goal.returns-else-on
returns-else-on c = player_off _ _ _ _ _ _ _ c.if-on.false

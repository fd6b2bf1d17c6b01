use native.Mathlib.Omega.{arith}
use Rattle.read_event.proofs.Leaves.{block_in, bit_put_lem, bit_none, bit_late, bit_early, bit_off}
use Rattle.read_event.proofs.seats.put_bit.Goals as goal

pub block_at-block-requires : goal.block_at-block-requires
block_at-block-requires c = c.requires.0 c.if-on.true

pub overflow_add-j : goal.overflow_add-j
overflow_add-j c = omega (arith, c.requires.2)

pub overflow_mul-j : goal.overflow_mul-j
overflow_mul-j c = omega (arith, block_in _ _ c.block_at-block.result _ c.requires.1 c.if-block-numbers.true, c.well_formed)

pub overflow_add-j-then-block-numbers : goal.overflow_add-j-then-block-numbers
overflow_add-j-then-block-numbers c = omega (arith, block_in _ _ c.block_at-block.result _ c.requires.1 c.if-block-numbers.true, c.well_formed)

pub bounds-bits-j : goal.bounds-bits-j
bounds-bits-j c = omega (arith, block_in _ _ c.block_at-block.result _ c.requires.1 c.if-block-numbers.true)

pub bounds-bits-j-then-block-numbers : goal.bounds-bits-j-then-block-numbers
bounds-bits-j-then-block-numbers c = omega (arith, block_in _ _ c.block_at-block.result _ c.requires.1 c.if-block-numbers.true)

pub returns-then-block-numbers : goal.returns-then-block-numbers
returns-then-block-numbers c = bit_put_lem _ _ _ _ _ _ c.if-on.true (omega arith) (omega arith) c.block_at-block.ensures c.if-block-numbers.true c.with_bit.ensures

pub returns-else-block-numbers : goal.returns-else-block-numbers
returns-else-block-numbers c = bit_none _ _ _ _ _ _ c.if-on.true (omega arith) (omega arith) c.block_at-block.ensures (omega arith)

pub returns-else-n-frames : goal.returns-else-n-frames
returns-else-n-frames c = bit_late _ _ _ _ _ _ c.if-on.true (omega arith) (omega arith)

pub returns-else-n-gt0 : goal.returns-else-n-gt0
returns-else-n-gt0 c = bit_early _ _ _ _ _ _ c.if-on.true (omega arith)

pub returns-else-on : goal.returns-else-on
returns-else-on c = bit_off _ _ _ _ _ _ c.if-on.false

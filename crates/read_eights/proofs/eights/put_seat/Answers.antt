use native.Mathlib.Omega.{arith}
use borrow.Author.Tests.{eq-eqb}
use Rattle.read_event.proofs.Leaves.{block_in}
use Rattle.read_eights.proofs.Places.{eight_in_block, is_post, put_pre, put_post, put_none}
use borrow.Author.Rules.{rules}
use Rattle.read_eights.proofs.eights.put_seat.Reads as reads
use Rattle.read_eights.proofs.eights.put_seat.Lts as lts
use Rattle.read_eights.proofs.eights.put_bits.Reads as put-bits-reads
use Rattle.read_event.proofs.seats.block_at.Reads as block-at-reads
use Rattle.gather.proofs.get_records.Reads as get-records-reads
use Rattle.read_eights.proofs.eights.put_seat.Goals as goal

pub overflow_mul-row : goal.overflow_mul-row
overflow_mul-row c =
    omega (arith, block_in _ _ c.block_at-block.result _ c.requires.7.pres.room c.if-block-numbers.true, c.well_formed, c.requires.7.modest, c.requires.8)

pub overflow_mul-row-then-code-eq-FRAME_PRE : goal.overflow_mul-row-then-code-eq-FRAME_PRE
overflow_mul-row-then-code-eq-FRAME_PRE c =
    omega (arith, block_in _ _ c.block_at-block.result _ c.requires.7.pres.room c.if-block-numbers.true, c.well_formed, c.requires.7.modest, c.requires.8)

pub overflow_add-row : goal.overflow_add-row
overflow_add-row c =
    omega (arith, block_in _ _ c.block_at-block.result _ c.requires.7.pres.room c.if-block-numbers.true, c.well_formed, c.requires.7.modest, c.requires.8)

pub get_records-requires : goal.get_records-requires
get_records-requires c =
    let h = c.requires in
    (omega arith, omega (arith, h.8), eight_in_block _ _ _ _ c.block_at-block.result _ h.7.pres c.if-block-numbers.true h.8, h.3, h.5 (eq-eqb _ _ c.if-code-eq-FRAME_PRE.true))

pub put_bits-requires : goal.put_bits-requires
put_bits-requires c =
    let h = c.requires in
    (block_in _ _ c.block_at-block.result _ h.7.bits c.if-block-numbers.true, h.8, h.7.modest)

pub returns-then-code-eq-FRAME_PRE : goal.returns-then-code-eq-FRAME_PRE
returns-then-code-eq-FRAME_PRE c =
    let h = c.requires in put_pre _ _ _ _ _ _ _ _ _ _ _ _ h.2 h.0 c.if-code-eq-FRAME_PRE.true c.block_at-block.ensures c.if-block-numbers.true h.8 c.get_records.ensures c.put_bits.ensures

pub overflow_mul-row-then-block-numbers : goal.overflow_mul-row-then-block-numbers
overflow_mul-row-then-block-numbers c =
    omega (arith, block_in _ _ c.block_at-block.result _ c.requires.7.posts.room c.if-block-numbers.true, c.well_formed, c.requires.7.modest, c.requires.8)

pub overflow_mul-row-then-block-numbers-2 : goal.overflow_mul-row-then-block-numbers-2
overflow_mul-row-then-block-numbers-2 c =
    omega (arith, block_in _ _ c.block_at-block.result _ c.requires.7.posts.room c.if-block-numbers.true, c.well_formed, c.requires.7.modest, c.requires.8)

pub overflow_add-row-then-block-numbers : goal.overflow_add-row-then-block-numbers
overflow_add-row-then-block-numbers c =
    omega (arith, block_in _ _ c.block_at-block.result _ c.requires.7.posts.room c.if-block-numbers.true, c.well_formed, c.requires.7.modest, c.requires.8)

pub get_records-requires-then-block-numbers : goal.get_records-requires-then-block-numbers
get_records-requires-then-block-numbers c =
    let h = c.requires in
    (omega arith, omega (arith, h.8), eight_in_block _ _ _ _ c.block_at-block.result _ h.7.posts c.if-block-numbers.true h.8, h.3, h.6 (is_post h.1 c.if-code-eq-FRAME_PRE.false))

pub returns-else-code-eq-FRAME_PRE : goal.returns-else-code-eq-FRAME_PRE
returns-else-code-eq-FRAME_PRE c =
    let h = c.requires in put_post _ _ _ _ _ _ _ _ _ _ _ _ h.2 h.0 h.1 c.if-code-eq-FRAME_PRE.false c.block_at-block.ensures c.if-block-numbers.true h.8 c.get_records-then-block-numbers.ensures

pub returns-else-block-numbers : goal.returns-else-block-numbers
returns-else-block-numbers c = let h = c.requires in put_none _ _ _ _ _ _ _ _ _ _ _ _ h.2 c.block_at-block.ensures (omega (arith, c.if-block-numbers.false)) h.8

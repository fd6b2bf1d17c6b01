use Prim.Native.Nat.{◌-◌}
use native.Mathlib.Omega.{arith}
use Rattle.read_eights.proofs.Places.{Marking, marking_start, marking_step, marking_done}
use Rattle.read_eights.proofs.eights.put_bits.Reads as reads
use Rattle.read_eights.proofs.eights.put_bits.Lts as lts
use Rattle.read_event.proofs.seats.with_bit.Reads as with-bit-reads
use Rattle.read_eights.proofs.eights.put_bits.Goals as goal

pub overflow_add-base : goal.overflow_add-base
overflow_add-base c = omega (arith, c.requires.2)

pub overflow_mul-base : goal.overflow_mul-base
overflow_mul-base c = omega (arith, c.requires.0, c.well_formed)

pub loop-t-init : goal.loop-t-init
loop-t-init c = marking_start

pub overflow_add-j : goal.overflow_add-j
overflow_add-j c = omega (arith, c.requires.1, c.requires.2, c.loop-t.invariant.few)

pub overflow_add-j-in-loop-t : goal.overflow_add-j-in-loop-t
overflow_add-j-in-loop-t c = omega (arith, c.requires, c.well_formed, c.loop-t-test.true)

pub bounds-bits-j : goal.bounds-bits-j
bounds-bits-j c = omega (arith, c.requires, c.loop-t.invariant.same, c.loop-t-test.true)

pub overflow_add-n : goal.overflow_add-n
overflow_add-n c = omega (arith, c.requires.1, c.requires.2, c.loop-t.invariant.few)

pub bounds-bits-j-in-loop-t : goal.bounds-bits-j-in-loop-t
bounds-bits-j-in-loop-t c = omega (arith, c.requires, c.loop-t.invariant.same, c.loop-t-test.true)

pub overflow_add-t : goal.overflow_add-t
overflow_add-t c = omega (arith, c.loop-t.invariant.few)

pub loop-t-smaller : goal.loop-t-smaller
loop-t-smaller c = omega (arith, c.loop-t-test.true)

pub loop-t-preserved : goal.loop-t-preserved
loop-t-preserved c = marking_step c.loop-t.invariant c.loop-t-test.true c.with_bit.ensures

pub shape_of-bits : goal.shape_of-bits
shape_of-bits c = c.loop-t.invariant.same

pub returns : goal.returns
returns c = marking_done c.loop-t.invariant c.loop-t-test.false

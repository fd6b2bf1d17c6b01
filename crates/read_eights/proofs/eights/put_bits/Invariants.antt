use Prim.Native.Nat.{◌-◌}
use native.Mathlib.Omega.{arith}
use Rattle.read_eights.proofs.Places.{Marking, marking_start, marking_step, marking_done}
use Rattle.read_eights.proofs.eights.put_bits.Reads as reads
use Rattle.read_eights.proofs.eights.put_bits.Lts as lts
use Rattle.read_event.proofs.seats.with_bit.Reads as with-bit-reads
use Rattle.read_eights.proofs.eights.put_bits.Given as goal

abbrev pub invariant-loop-t : goal.invariant-loop-t
invariant-loop-t l = Marking l.block l.frames l.n l.initial.bits l.bits l.t

abbrev pub decreases-loop-t : goal.decreases-loop-t
decreases-loop-t l = 8 - l.t

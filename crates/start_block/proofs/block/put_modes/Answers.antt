use lib.Dec.{lit≤}
use native.Mathlib.Omega.{arith}
use Rattle.start.specs.Block.{mode_fields}
use Rattle.start.proofs.Lengths.{long_enough}
use Rattle.patch.proofs.Patches.{patched_then, same_long}
use Rattle.start_block.proofs.block.put_modes.Goals as goal

pub put_flag-requires : goal.put_flag-requires
put_flag-requires c = λ on. omega (arith, long_enough _ 6 on)

pub put_flag-requires-2 : goal.put_flag-requires-2
put_flag-requires-2 c = λ on. omega (arith, long_enough _ 5 on)

pub put_number-requires : goal.put_number-requires
put_number-requires c =
    (lit≤ tt, λ on. omega (arith, long_enough _ 4 on, c.put_flag-2.auto.block, c.put_flag.auto.block, c.requires))

pub overflow_cast-s-2 : goal.overflow_cast-s-2
overflow_cast-s-2 c = omega (arith, c.struct_known-2-1.given)

pub put_number-requires-2 : goal.put_number-requires-2
put_number-requires-2 c =
    (lit≤ tt, λ on. omega (arith, long_enough _ 4 on, c.put_number.auto.block, c.put_flag-2.auto.block, c.put_flag.auto.block, c.requires))

pub overflow_cast-s-3 : goal.overflow_cast-s-3
overflow_cast-s-3 c = omega (arith, c.struct_known-3-1.given)

pub put_number-requires-3 : goal.put_number-requires-3
put_number-requires-3 c = (
  lit≤ tt,
  λ on. omega (arith, long_enough _ 1 on, c.put_number-2.auto.block, c.put_number.auto.block, c.put_flag-2.auto.block, c.put_flag.auto.block, c.requires),
)

pub returns : goal.returns
unfolding mode_fields
returns c =
    patched_then c.put_flag.ensures
    (patched_then c.put_flag-2.ensures
    (patched_then c.put_number.ensures (patched_then c.put_number-2.ensures c.put_number-3.ensures)))

pub shape_of-block : goal.shape_of-block
shape_of-block c = same_long (returns c)

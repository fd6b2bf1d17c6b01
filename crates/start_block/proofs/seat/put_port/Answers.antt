use lib.Dec.{lit≤}
use native.Mathlib.Omega.{arith}
use Rattle.start.specs.Block.{port_fields}
use Rattle.start.proofs.Lengths.{at_least, long_enough}
use Rattle.patch.proofs.Patches.{patched_then}
use Rattle.start_block.proofs.seat.put_port.Goals as goal

pub put_player-requires : goal.put_player-requires
put_player-requires c = omega (arith, at_least c.args.v)

pub put_number-requires : goal.put_number-requires
put_number-requires c = (lit≤ tt, λ on. omega (arith, long_enough _ 8 on))

pub put_number-requires-2 : goal.put_number-requires-2
put_number-requires-2 c = (lit≤ tt, λ on. omega (arith, long_enough _ 8 on))

pub returns : goal.returns
unfolding port_fields
returns c = search patched_then

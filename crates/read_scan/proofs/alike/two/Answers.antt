-- `read_scan::alike::two` meets its contract: bytes are below 256, so nothing overflows.
use Prim.Native.Nat.{◌+◌}
use mathlib.Core.Path.{refl}
use native.Mathlib.Omega.{arith}
use Rattle.read_scan.proofs.alike.two.Goals as goal

pub returns : goal.returns
returns c = record { sum = refl; first = omega (arith, c.shared_slice_known-2-1.given c.args.at) }

pub overflow_cast-result : goal.overflow_cast-result
overflow_cast-result c = omega (arith, c.shared_slice_known-1.given c.args.at)

pub overflow_cast-result-2 : goal.overflow_cast-result-2
overflow_cast-result-2 c = omega (arith, c.shared_slice_known-2-1.given (c.args.at + 1))

pub overflow_mul-result : goal.overflow_mul-result
overflow_mul-result c = omega (arith, c.shared_slice_known-2-1.given (c.args.at + 1))

pub overflow_add-result-2 : goal.overflow_add-result-2
overflow_add-result-2 c = let k = c.shared_slice_known-2-1.given in let a = c.args.at in omega (arith, k a, k (a + 1))

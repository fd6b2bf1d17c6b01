-- `read_scan::alike::four` meets its contract: bytes are below 256, so nothing overflows.
use Prim.Native.Nat.{◌+◌}
use mathlib.Core.Path.{refl}
use native.Mathlib.Omega.{arith}
use Rattle.read_scan.proofs.alike.four.Goals as goal

pub returns : goal.returns
returns c =
    let k = c.shared_slice_known-4-1.given in
    let a = c.args.at in
    record { sum = refl; first = omega (arith, k a); second = omega (arith, k (a + 1)); third = omega (arith, k (a + 2)) }

pub overflow_cast-result : goal.overflow_cast-result
overflow_cast-result c = omega (arith, c.shared_slice_known-1.given c.args.at)

pub overflow_cast-result-2 : goal.overflow_cast-result-2
overflow_cast-result-2 c = omega (arith, c.shared_slice_known-2-1.given (c.args.at + 1))

pub overflow_mul-result : goal.overflow_mul-result
overflow_mul-result c = omega (arith, c.shared_slice_known-2-1.given (c.args.at + 1))

pub overflow_add-result-2 : goal.overflow_add-result-2
overflow_add-result-2 c = let k = c.shared_slice_known-2-1.given in let a = c.args.at in omega (arith, k a, k (a + 1))

pub overflow_cast-result-3 : goal.overflow_cast-result-3
overflow_cast-result-3 c = omega (arith, c.shared_slice_known-3-1.given (c.args.at + 2))

pub overflow_mul-result-2 : goal.overflow_mul-result-2
overflow_mul-result-2 c = omega (arith, c.shared_slice_known-3-1.given (c.args.at + 2))

pub overflow_add-result-4 : goal.overflow_add-result-4
overflow_add-result-4 c = let k = c.shared_slice_known-3-1.given in let a = c.args.at in omega (arith, k a, k (a + 1), k (a + 2))

pub overflow_cast-result-4 : goal.overflow_cast-result-4
overflow_cast-result-4 c = omega (arith, c.shared_slice_known-4-1.given (c.args.at + 3))

pub overflow_mul-result-3 : goal.overflow_mul-result-3
overflow_mul-result-3 c = omega (arith, c.shared_slice_known-4-1.given (c.args.at + 3))

pub overflow_add-result-6 : goal.overflow_add-result-6
overflow_add-result-6 c = let k = c.shared_slice_known-4-1.given in let a = c.args.at in omega (arith, k a, k (a + 1), k (a + 2), k (a + 3))

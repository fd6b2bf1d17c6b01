use native.Mathlib.Omega.{arith}
use mathlib.Core.Path.{ap}
use Prim.Native.Nat.{ℕ}
use lib.ListN.{get_or}
use Rattle.read_scan.proofs.event.span_of.Goals as goal

pub overflow_cast-result : goal.overflow_cast-result
overflow_cast-result c = omega (arith, c.shared_slice_known-2-1.given c.wide.result)

pub returns : goal.returns
returns c =
    let e = ap (λ (i : ℕ). get_or c.args.spans.now i 0) c.wide.ensures.0 in
    (e, omega (arith, c.shared_slice_known-2-1.given c.wide.result))

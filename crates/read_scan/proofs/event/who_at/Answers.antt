use mathlib.Core.Path.{◌≡◌, sym}
use Prim.Native.Nat.{◌+◌}
use native.Mathlib.Omega.{arith}
use lib.ListN.{get_or, get_or-eq_default}
use Rattle.read_scan.proofs.event.who_at.Goals as goal

pub overflow_cast-result : goal.overflow_cast-result
overflow_cast-result c = omega (arith, c.shared_slice_known-then-at-file-1.given (c.args.at + 5))

pub overflow_cast-result-then-at-file : goal.overflow_cast-result-then-at-file
overflow_cast-result-then-at-file c = omega (arith, c.shared_slice_known-then-at-file-2-1.given (c.args.at + 6))

pub returns : goal.returns
returns c =
    let a = c.args in
    let none : 0 ≡ get_or a.file.now (a.at + 6) 0 = sym (get_or-eq_default a.file.now 0 (omega arith)) in
    λ i. record { id = 0; port = c.byte_at-port.ensures i; follower = none i }

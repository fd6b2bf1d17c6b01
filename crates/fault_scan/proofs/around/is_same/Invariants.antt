use mathlib.Core.Path.{◌≡◌, refl, sym, ◌∙◌}
use Prim.Native.Nat.{◌-◌, ◌≤◌}
use native.Mathlib.Omega.{arith}
use lib.ListN.{length, drop}
use Rattle.fault_reason.specs.Fault.{alike_bytes}
use Rattle.fault_scan.proofs.Laws.{same_length, same_end, same_not, same_on}
use Rattle.fault_scan.proofs.around.is_same.Given as goal

abbrev pub invariant-loop-i : goal.invariant-loop-i
invariant-loop-i l = (length l.a ≡ length l.b) × (l.i ≤ length l.a) × (alike_bytes l.a l.b ≡ alike_bytes (drop l.i l.a) (drop l.i l.b))

abbrev pub decreases-loop-i : goal.decreases-loop-i
decreases-loop-i l = length l.a - l.i

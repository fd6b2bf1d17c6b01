use mathlib.Core.Path.{◌≡◌, refl, sym, ◌∙◌}
use Prim.Native.Nat.{◌-◌, ◌≤◌}
use native.Mathlib.Omega.{arith}
use lib.ListN.{length, drop}
use Rattle.fault_reason.specs.Fault.{alike_bytes}
use Rattle.fault_scan.proofs.Laws.{same_length, same_end, same_not, same_on}
use Rattle.fault_scan.proofs.around.is_same.Goals as goal

pub returns-then-a-b : goal.returns-then-a-b
returns-then-a-b c = same_length _ _ c.if-a-b.true

pub loop-i-init : goal.loop-i-init
loop-i-init c = (omega arith, omega arith, refl)

pub bounds-b-i : goal.bounds-b-i
bounds-b-i c = omega (arith, c.loop-i.invariant.0)

pub returns-then-a-i : goal.returns-then-a-i
returns-then-a-i c = sym (c.loop-i.invariant.2 ∙ same_not _ _ c.loop-i.invariant.0 _ c.loop-i-test.true c.if-a-i.true)

pub loop-i-preserved : goal.loop-i-preserved
loop-i-preserved c = (c.loop-i.invariant.0, omega arith, c.loop-i.invariant.2 ∙ same_on _ _ c.loop-i.invariant.0 _ c.loop-i-test.true c.if-a-i.false)

pub returns : goal.returns
returns c = sym (c.loop-i.invariant.2 ∙ same_end _ _ c.loop-i.invariant.0 _ c.loop-i-test.false)

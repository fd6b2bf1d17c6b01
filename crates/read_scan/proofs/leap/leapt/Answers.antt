use Prim.Native.Nat.{◌+◌, ◌-◌, ◌^◌}
use mathlib.Core.Path.{refl, sym, ap, subst}
use native.Mathlib.Omega.{arith}
use Rattle.read_scan.specs.Alike.{on_id}
use Rattle.read_scan.specs.Counts.{begun_at, Under}
use Rattle.read_scan.specs.declared.tally.Tally.{Tally}
use Rattle.read_scan.proofs.Compare.{along_to}
use Rattle.read_scan.proofs.Counting.{under_to}
use Rattle.read_scan.proofs.Leaps.{running_start, running_step, running_done, under_begun, some_begun, from_first}
use Rattle.read_scan.proofs.leap.leapt.Goals as goal

pub overflow_sub-step : goal.overflow_sub-step
overflow_sub-step c = omega (arith, c.requires.0)

pub overflow_add-at : goal.overflow_add-at
overflow_add-at c = omega (arith, c.requires.1)

pub get_be-first-requires : goal.get_be-first-requires
get_be-first-requires c = (omega arith, omega (arith, c.requires.1))

pub begun-y-requires : goal.begun-y-requires
begun-y-requires c = let a = c.args in let h = c.requires in under_to a.tally a.at (2 ^ 64 - 2) h.2 (omega (arith, h.1))

pub overflow_add-p : goal.overflow_add-p
overflow_add-p c = omega (arith, c.requires.1)

pub loop-init : goal.loop-init
loop-init c =
    let a = c.args in
    let h = c.requires in
    let first = c.get_be-first.result in
    let b = c.begun-y in
    let next = a.at + (a.at - a.last) in
    let under : Under (begun_at a.tally a.m.id first) next = under_begun a.tally a.m.id first a.at next h.2 (omega (arith, h.0)) in
    (running_start (subst (λ (x : Tally). Under x next) (sym b.ensures) under), some_begun a.tally a.m.id first b.result b.ensures, omega arith)

pub overflow_add-p-in-loop : goal.overflow_add-p-in-loop
overflow_add-p-in-loop c = omega (arith, along_to c.loop.invariant.0.along 7 c.loop.invariant.2, c.requires.1)

pub get_be-id-requires : goal.get_be-id-requires
get_be-id-requires c = (omega arith, omega (arith, along_to c.loop.invariant.0.along 6 (omega (arith, c.loop-test.true)), c.requires.1))

pub begun_next-y-requires : goal.begun_next-y-requires
begun_next-y-requires c =
    let a = c.args in
    let l = c.loop in
    let h = c.requires in
    (under_to l.y (a.at + (a.at - a.last) + l.counter) (2 ^ 64 - 2) l.invariant.0.under (omega (arith, h.0, h.1, l.invariant.2)), l.invariant.1)

pub overflow_add-p-in-loop-2 : goal.overflow_add-p-in-loop-2
overflow_add-p-in-loop-2 c = omega (arith, along_to c.loop.invariant.0.along 6 (omega (arith, c.loop-test.true)), c.requires.1)

pub loop-preserved : goal.loop-preserved
loop-preserved c =
    let l = c.loop in
    let id = c.get_be-id in
    let b = c.begun_next-y in
    (running_step l.invariant.0 (omega (arith, c.loop-test.true)) id.result id.ensures b.result b.ensures, some_begun l.y l.old id.result b.result b.ensures, omega (arith, c.loop-test.true))

pub overflow_mul-result : goal.overflow_mul-result
overflow_mul-result c = omega (arith, c.requires.1)

pub returns : goal.returns
returns c =
    let a = c.args in
    let l = c.loop in
    let d = running_done l.invariant.0 (omega (arith, c.loop-test.false, l.invariant.2)) in
    let f = from_first a.file.now a.at (a.at - a.last) a.m.id a.tally c.get_be-first.result c.get_be-first.ensures c.begun-y.result c.begun-y.ensures l.old d.0 l.y d.1 in
    (ap (on_id a.m) f.0, f.1, refl)

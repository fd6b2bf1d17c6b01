use Prim.Native.Nat.{◌+◌}
use native.Mathlib.Omega.{arith}
use Rattle.format.proofs.Versions.{no_way}
use Rattle.read_event.proofs.Likeness.{place_first, place_next, place_in, same_first, same_more, same_all}
use Rattle.read_event.proofs.alike.is_repeated.Goals as goal

pub loop-init : goal.loop-init
loop-init c = (omega arith, place_first _ _, same_first)

pub overflow_add-p : goal.overflow_add-p
overflow_add-p c =
    let l = c.loop in
    let a = c.args in
    omega (arith, place_in a.at a.step l.counter l.p l.invariant.1 c.loop-test.true)

pub bounds-file-p : goal.bounds-file-p
bounds-file-p c =
    let l = c.loop in
    let a = c.args in
    omega (arith, place_in a.at a.step l.counter l.p l.invariant.1 c.loop-test.true)

pub returns-then-file-p : goal.returns-then-file-p
returns-then-file-p c = λ e. no_way e

pub loop-preserved : goal.loop-preserved
loop-preserved c =
    let l = c.loop in
    let a = c.args in
    let p = place_next a.at a.step l.counter l.p l.invariant.1 in
    (omega arith, p, same_more l.counter (l.p + a.step) p (omega arith) l.invariant.2)

pub returns : goal.returns
returns c = λ e. same_all c.loop.invariant.2 (omega arith)

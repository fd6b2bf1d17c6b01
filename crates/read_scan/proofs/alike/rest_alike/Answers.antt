use native.Mathlib.Omega.{arith}
use Rattle.format.proofs.Versions.{no_way}
use Rattle.read_scan.proofs.Compare.{down_start, down_step, down_done}
use Rattle.read_scan.proofs.alike.rest_alike.Goals as goal

pub loop-e-init : goal.loop-e-init
loop-e-init c = down_start

pub bounds-file-e : goal.bounds-file-e
bounds-file-e c = omega (arith, c.loop-e-test.true, c.requires.1)

pub span_of-n-requires : goal.span_of-n-requires
span_of-n-requires c = c.requires.2

pub returns-then-n-eq0 : goal.returns-then-n-eq0
returns-then-n-eq0 c = no_way

pub overflow_sub-at : goal.overflow_sub-at
overflow_sub-at c = omega (arith, c.loop-e-test.true)

pub returns-then-at-e : goal.returns-then-at-e
returns-then-at-e c = no_way

pub event_alike-requires : goal.event_alike-requires
event_alike-requires c = let h = c.requires in (omega (arith, h.0, h.1), omega (arith, h.1, c.loop-e-test.true))

pub overflow_add-e : goal.overflow_add-e
overflow_add-e c = omega (arith, c.if-at-e.false, c.loop-e-test.true, c.requires.1)

pub loop-e-smaller : goal.loop-e-smaller
loop-e-smaller c = omega (arith, c.if-at-e.false, c.if-n-eq0.false, c.loop-e-test.true)

pub loop-e-preserved : goal.loop-e-preserved
loop-e-preserved c =
    down_step c.loop-e.invariant c.loop-e-test.true c.span_of-n.result c.span_of-n.ensures.0 (c.event_alike.ensures c.if-not-event_alike.false)

pub returns-then-not-event_alike : goal.returns-then-not-event_alike
returns-then-not-event_alike c = no_way

pub returns : goal.returns
returns c = λ e. down_done c.loop-e.invariant c.loop-e-test.false

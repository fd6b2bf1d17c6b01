use native.Mathlib.Omega.{arith}
use Rattle.read_leap.proofs.Leaps.{quiet_first, quiet_whole, quiet_more, leapt_end, leapt_off}
use Rattle.read_leap.proofs.leap.ends_at.Goals as goal

pub overflow_add-was : goal.overflow_add-was
overflow_add-was c = omega (arith, c.requires.1)

pub is_ahead-requires : goal.is_ahead-requires
is_ahead-requires c = let h = c.requires in (h.0, omega (arith, h.1))

pub overflow_add-next : goal.overflow_add-next
overflow_add-next c = let a = c.is_ahead.ensures c.if-is_ahead.true in omega (arith, a.inside, a.whole, c.well_formed)

pub overflow_add-e : goal.overflow_add-e
overflow_add-e c = let a = c.is_ahead.ensures c.if-is_ahead.true in omega (arith, a.forward, a.inside, a.whole, c.well_formed)

pub loop-e-init : goal.loop-e-init
loop-e-init c = let a = c.is_ahead.ensures c.if-is_ahead.true in quiet_first _ _ _ _ _ _ _ _ a c.requires.0 c.requires.2

pub goes_on-span-requires : goal.goes_on-span-requires
goes_on-span-requires c =
    let a = c.is_ahead.ensures c.if-is_ahead.true in
    (quiet_whole _ _ _ _ _ _ _ _ a c.requires.0 c.loop-e.invariant c.loop-e-test.true, c.loop-e-test.true, omega (arith, a.inside, a.whole))

pub returns-then-span-eq0 : goal.returns-then-span-eq0
returns-then-span-eq0 c = λ h. absurd (omega (arith, h))

pub bounds-file-e : goal.bounds-file-e
bounds-file-e c = let a = c.is_ahead.ensures c.if-is_ahead.true in omega (arith, a.inside, a.whole, c.loop-e-test.true)

pub returns-then-code-ne-FRAME_END : goal.returns-then-code-ne-FRAME_END
returns-then-code-ne-FRAME_END c = λ h. absurd (omega (arith, h))

pub overflow_add-e-then-code-ge-FRAME_START : goal.overflow_add-e-then-code-ge-FRAME_START
overflow_add-e-then-code-ge-FRAME_START c =
    let a = c.is_ahead.ensures c.if-is_ahead.true in
    let g = c.goes_on-span.ensures (omega (arith, c.if-span-eq0.false)) in omega (arith, g.inside, a.inside, a.whole, c.well_formed)

pub returns-then-e-span : goal.returns-then-e-span
returns-then-e-span c = λ h. absurd (omega (arith, h))

pub returns-then-code-ge-FRAME_START : goal.returns-then-code-ge-FRAME_START
returns-then-code-ge-FRAME_START c =
    let a = c.is_ahead.ensures c.if-is_ahead.true in
    let g = c.goes_on-span.ensures (omega (arith, c.if-span-eq0.false)) in λ h. leapt_end _ _ _ _ _ _ _ _ a c.requires.0 c.loop-e.invariant c.loop-e-test.true g c.if-code-ne-FRAME_END.false c.if-e-span.false

pub overflow_add-e-in-loop-e : goal.overflow_add-e-in-loop-e
overflow_add-e-in-loop-e c =
    let a = c.is_ahead.ensures c.if-is_ahead.true in
    let g = c.goes_on-span.ensures (omega (arith, c.if-span-eq0.false)) in omega (arith, g.inside, a.inside, a.whole, c.well_formed)

pub loop-e-smaller : goal.loop-e-smaller
loop-e-smaller c = omega (arith, c.if-span-eq0.false, c.loop-e-test.true)

pub loop-e-preserved : goal.loop-e-preserved
loop-e-preserved c =
    let a = c.is_ahead.ensures c.if-is_ahead.true in
    let g = c.goes_on-span.ensures (omega (arith, c.if-span-eq0.false)) in quiet_more _ _ _ _ _ _ _ _ a c.requires.0 c.loop-e.invariant c.loop-e-test.true g (omega (arith, c.if-code-ge-FRAME_START.false))

pub returns-then-is_ahead : goal.returns-then-is_ahead
returns-then-is_ahead c = let a = c.is_ahead.ensures c.if-is_ahead.true in λ h. leapt_off _ _ _ _ _ _ _ _ a c.requires.0 c.loop-e.invariant (omega (arith, c.loop-e-test.false))

pub returns : goal.returns
returns c = λ h. absurd (omega (arith, h))

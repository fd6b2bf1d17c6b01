use mathlib.Core.Path.{refl, ◌∙◌}
use native.Mathlib.Omega.{arith}
use Rattle.read_places.proofs.Steps.{follow_first, follow_whole, follow_more, follow_done}
use Rattle.read_places.proofs.alike.follow.Goals as goal

pub overflow_add-was : goal.overflow_add-was
overflow_add-was c = omega (arith, c.requires.2, c.requires.5)

pub is_ahead-requires : goal.is_ahead-requires
is_ahead-requires c = (c.requires.1, omega (arith, c.requires.2, c.requires.5))

pub overflow_add-next : goal.overflow_add-next
overflow_add-next c = let a = c.is_ahead.ensures c.if-is_ahead.true in omega (arith, a.inside, a.whole, c.well_formed)

pub overflow_add-e : goal.overflow_add-e
overflow_add-e c = let a = c.is_ahead.ensures c.if-is_ahead.true in omega (arith, a.forward, a.inside, a.whole, c.well_formed)

pub loop-e-init : goal.loop-e-init
loop-e-init c = let a = c.is_ahead.ensures c.if-is_ahead.true in let h = c.requires in (follow_first _ _ _ _ _ _ _ _ a _ h.1 h.3 h.4, refl)

pub goes_on-span-requires : goal.goes_on-span-requires
goes_on-span-requires c =
    let a = c.is_ahead.ensures c.if-is_ahead.true in
    let l = c.loop-e.invariant in
    (follow_whole _ _ _ _ _ _ _ _ a l.0 c.loop-e-test.true c.requires.1, c.loop-e-test.true, omega (arith, a.inside, a.whole))

pub shape_of-places-then-span-eq0 : goal.shape_of-places-then-span-eq0
shape_of-places-then-span-eq0 c = c.loop-e.invariant.1

pub returns-then-span-eq0 : goal.returns-then-span-eq0
returns-then-span-eq0 c = (c.loop-e.invariant.0.whole, λ h. absurd (omega (arith, h)))

pub shape_of-places-then-j-ge16 : goal.shape_of-places-then-j-ge16
shape_of-places-then-j-ge16 c = c.loop-e.invariant.1

pub returns-then-j-ge16 : goal.returns-then-j-ge16
returns-then-j-ge16 c = (c.loop-e.invariant.0.whole, λ h. absurd (omega (arith, h)))

pub note_steps-j-requires : goal.note_steps-j-requires
note_steps-j-requires c =
    let a = c.is_ahead.ensures c.if-is_ahead.true in
    let l = c.loop-e.invariant in
    (omega (arith, c.if-j-ge16.false), omega (arith, l.1, c.requires.0), omega (arith, a.inside, a.whole, c.loop-e-test.true))

pub overflow_add-e-in-loop-e : goal.overflow_add-e-in-loop-e
overflow_add-e-in-loop-e c =
    let a = c.is_ahead.ensures c.if-is_ahead.true in
    let g = c.goes_on-span.ensures (omega (arith, c.if-span-eq0.false)) in omega (arith, g.inside, a.inside, a.whole, c.well_formed)

pub loop-e-smaller : goal.loop-e-smaller
loop-e-smaller c = omega (arith, c.if-span-eq0.false, c.loop-e-test.true)

pub loop-e-preserved : goal.loop-e-preserved
loop-e-preserved c =
    let a = c.is_ahead.ensures c.if-is_ahead.true in
    let l = c.loop-e.invariant in
    let g = c.goes_on-span.ensures (omega (arith, c.if-span-eq0.false)) in (
      follow_more _ _ _ _ _ _ _ _ a l.0 c.loop-e-test.true c.requires.1 g (omega (arith, c.if-j-ge16.false)) (omega (arith, l.1, c.requires.0)) c.note_steps-j.ensures.0 c.note_steps-j.ensures.1,
      c.note_steps-j.auto.places ∙ l.1,
    )

pub overflow_add-result : goal.overflow_add-result
overflow_add-result c = omega (arith, c.loop-e.invariant.0.few)

pub shape_of-places-then-is_ahead : goal.shape_of-places-then-is_ahead
shape_of-places-then-is_ahead c = c.loop-e.invariant.1

pub returns-then-is_ahead : goal.returns-then-is_ahead
returns-then-is_ahead c = let a = c.is_ahead.ensures c.if-is_ahead.true in let l = c.loop-e.invariant in (l.0.whole, λ h. follow_done a l.0 (omega (arith, c.loop-e-test.false)))

pub returns : goal.returns
returns c = (c.requires.4, λ h. absurd (omega (arith, h)))

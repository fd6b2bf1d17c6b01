use mathlib.Core.Path.{refl, ◌∙◌}
use native.Mathlib.Omega.{arith}
use Rattle.read_places.proofs.Scans.{batch_first, batch_kept, batch_more}
use Rattle.read_places.proofs.scan.find_frames.Goals as goal

pub scan_frame-s-requires : goal.scan_frame-s-requires
scan_frame-s-requires c = let h = c.requires in (omega arith, h.0, h.1, h.2, h.3, h.4)

pub loop-m-init : goal.loop-m-init
loop-m-init c = (batch_first _ _ _ _ _ _ _ c.scan_frame-s.ensures, refl, refl, omega (arith, c.requires.0, c.scan_frame-s.ensures.same))

pub shape_of-places-then-stop-b : goal.shape_of-places-then-stop-b
shape_of-places-then-stop-b c = c.loop-m.invariant.2 ∙ c.scan_frame-s.ensures.same

pub returns-then-stop-b : goal.returns-then-stop-b
returns-then-stop-b c = c.loop-m.invariant.0

pub scan_frame-x-requires : goal.scan_frame-x-requires
scan_frame-x-requires c =
    let l = c.loop-m.invariant in (c.loop-m-test.true, omega (arith, l.2, l.3), omega (arith, c.if-stop-b.false), l.0.begun, l.0.some, l.0.whole)

pub shape_of-places-then-x-b : goal.shape_of-places-then-x-b
shape_of-places-then-x-b c = c.scan_frame-x.ensures.same ∙ c.loop-m.invariant.2 ∙ c.scan_frame-s.ensures.same

pub returns-then-x-b : goal.returns-then-x-b
returns-then-x-b c = batch_kept _ _ _ _ _ _ _ c.loop-m.invariant.0 c.loop-m.invariant.1 c.loop-m-test.true c.scan_frame-x.ensures

pub overflow_add-b : goal.overflow_add-b
overflow_add-b c = omega (arith, c.loop-m.invariant.0.bound, c.loop-m.invariant.1, c.requires.5)

pub shape_of-places-then-x-b-2 : goal.shape_of-places-then-x-b-2
shape_of-places-then-x-b-2 c = c.scan_frame-x.ensures.same ∙ c.loop-m.invariant.2 ∙ c.scan_frame-s.ensures.same

pub returns-then-x-b-2 : goal.returns-then-x-b-2
returns-then-x-b-2 c = batch_kept _ _ _ _ _ _ _ c.loop-m.invariant.0 c.loop-m.invariant.1 c.loop-m-test.true c.scan_frame-x.ensures

pub loop-m-preserved : goal.loop-m-preserved
loop-m-preserved c =
    let l = c.loop-m.invariant in
    (batch_more _ _ _ _ _ _ _ l.0 l.1 c.loop-m-test.true c.scan_frame-x.ensures c.if-x-b.false c.if-x-b-2.false, refl, c.scan_frame-x.ensures.same ∙ l.2, l.3)

pub shape_of-places : goal.shape_of-places
shape_of-places c = c.loop-m.invariant.2 ∙ c.scan_frame-s.ensures.same

pub returns : goal.returns
returns c = c.loop-m.invariant.0

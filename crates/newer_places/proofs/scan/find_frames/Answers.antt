use mathlib.Core.Path.{◌≡◌, refl, ◌∙◌}
use Prim.Native.Nat.{◌-◌, ◌≤◌}
use native.Mathlib.Omega.{arith}
use lib.ListN.{length}
use Rattle.read_event.specs.declared.seen.Open.{Open}
use Rattle.read_places.proofs.Scans.{batch_of}
use Rattle.newer_places.specs.Inner.{Batched}
use Rattle.newer_places.proofs.Scans.{batch_first, batch_kept, batch_more}
use Rattle.newer_places.proofs.scan.find_frames.Reads as reads
use Rattle.newer_places.proofs.scan.find_frames.Lts as lts
use Rattle.newer_places.proofs.scan.scan_frame.Reads as scan-frame-reads
use Rattle.newer_places.proofs.scan.find_frames.Goals as goal

pub scan_frame-s-requires : goal.scan_frame-s-requires
scan_frame-s-requires c = let h = c.requires in (omega arith, h.0, h.1, h.2, h.3, h.4, h.5)

pub loop-m-init : goal.loop-m-init
loop-m-init c = (λ o x. x, refl, omega (arith, c.requires.0, c.scan_frame-s.ensures.same))

pub shape_of-places-then-stop-next : goal.shape_of-places-then-stop-next
shape_of-places-then-stop-next c = c.loop-m.invariant.1 ∙ c.scan_frame-s.ensures.same

pub returns-then-stop-next : goal.returns-then-stop-next
returns-then-stop-next c = c.loop-m.invariant.0 _ (batch_first _ _ _ _ _ _ _ c.scan_frame-s.ensures)

pub scan_frame-x-requires : goal.scan_frame-x-requires
scan_frame-x-requires c =
    let got = c.loop-m.invariant.0 _ (batch_first _ _ _ _ _ _ _ c.scan_frame-s.ensures) in
    (c.loop-m-test.true, omega (arith, c.loop-m.invariant.1, c.loop-m.invariant.2), omega (arith, c.if-stop-next.false), got.begun, c.requires.3, got.stood, got.whole)

pub shape_of-places-then-x-count : goal.shape_of-places-then-x-count
shape_of-places-then-x-count c = c.scan_frame-x.ensures.same ∙ c.loop-m.invariant.1 ∙ c.scan_frame-s.ensures.same

pub returns-then-x-count : goal.returns-then-x-count
returns-then-x-count c =
    let got = c.loop-m.invariant.0 _ (batch_first _ _ _ _ _ _ _ c.scan_frame-s.ensures) in
    batch_kept _ _ _ _ _ _ _ got c.loop-m-test.true c.scan_frame-x.ensures

pub overflow_add-first : goal.overflow_add-first
overflow_add-first c =
    let got = c.loop-m.invariant.0 _ (batch_first _ _ _ _ _ _ _ c.scan_frame-s.ensures) in
    omega (arith, got.bound, c.requires.6)

pub shape_of-places-then-x-first : goal.shape_of-places-then-x-first
shape_of-places-then-x-first c = c.scan_frame-x.ensures.same ∙ c.loop-m.invariant.1 ∙ c.scan_frame-s.ensures.same

pub returns-then-x-first : goal.returns-then-x-first
returns-then-x-first c =
    let got = c.loop-m.invariant.0 _ (batch_first _ _ _ _ _ _ _ c.scan_frame-s.ensures) in
    batch_kept _ _ _ _ _ _ _ got c.loop-m-test.true c.scan_frame-x.ensures

pub overflow_add-m : goal.overflow_add-m
overflow_add-m c = omega (arith, c.loop-m-test.true)

pub loop-m-smaller : goal.loop-m-smaller
loop-m-smaller c = omega (arith, c.loop-m-test.true)

pub loop-m-preserved : goal.loop-m-preserved
loop-m-preserved c =
    let s = c.scan_frame-x.ensures in
    (λ o x. batch_more _ _ _ _ _ _ o (c.loop-m.invariant.0 o x) c.loop-m-test.true s c.if-x-count.false c.if-x-first.false, s.same ∙ c.loop-m.invariant.1, c.loop-m.invariant.2)

pub shape_of-places : goal.shape_of-places
shape_of-places c = c.loop-m.invariant.1 ∙ c.scan_frame-s.ensures.same

pub returns : goal.returns
returns c = c.loop-m.invariant.0 _ (batch_first _ _ _ _ _ _ _ c.scan_frame-s.ensures)

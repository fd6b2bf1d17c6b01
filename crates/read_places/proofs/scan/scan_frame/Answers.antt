use native.Mathlib.Omega.{arith}
use Rattle.read_event.proofs.Parts.{some_whole}
use Rattle.read_places.proofs.Scans.{scan_first, scan_more, scan_whole, scan_from, scan_back}
use Rattle.read_places.proofs.scan.scan_frame.Goals as goal

pub open_at-begun-requires : goal.open_at-begun-requires
open_at-begun-requires c = let h = c.requires in let w = some_whole _ _ _ _ h.4 h.2 in (omega (arith, w.long, w.inside), h.3)

pub bounds-file-at : goal.bounds-file-at
bounds-file-at c = let h = c.requires in let w = some_whole _ _ _ _ h.4 h.2 in omega (arith, w.long, w.inside)

pub note-j-requires : goal.note-j-requires
note-j-requires c = let h = c.requires in (omega (arith, h.0, h.1), omega arith)

pub bounds-file-at-2 : goal.bounds-file-at-2
bounds-file-at-2 c = let h = c.requires in let w = some_whole _ _ _ _ h.4 h.2 in omega (arith, w.long, w.inside)

pub overflow_add-e : goal.overflow_add-e
overflow_add-e c = let h = c.requires in let w = some_whole _ _ _ _ h.4 h.2 in omega (arith, c.span_of.ensures, w.inside, c.well_formed)

pub stays-on-requires : goal.stays-on-requires
stays-on-requires c =
    let h = c.requires in
    let o = c.open_at-begun.ensures in
    let n = c.note-j.ensures in
    let f = scan_first _ _ _ _ _ _ _ _ _ _ h.0 h.1 h.2 h.4 h.5 o.0 o.1 n.0 n.1 c.span_of.ensures in
    scan_whole _ _ _ _ _ _ _ _ _ _ _ f

pub loop-on-init : goal.loop-on-init
loop-on-init c =
    let f = (scan_first _ _ _ _ _ _ _ _ _ _ c.requires.0 c.requires.1 c.requires.2 c.requires.4 c.requires.5 c.open_at-begun.ensures.0 c.open_at-begun.ensures.1 c.note-j.ensures.0 c.note-j.ensures.1 c.span_of.ensures) in
    (scan_from f, c.stays-on.ensures, omega (arith, c.requires.1, f.same))

pub bounds-file-e : goal.bounds-file-e
bounds-file-e c = let l = c.loop-on.invariant in let w = scan_whole _ _ _ _ _ _ _ _ _ _ _ l.0 (l.1 c.loop-on-test.true).before in omega (arith, w)

pub note-j-requires-in-loop-on : goal.note-j-requires-in-loop-on
note-j-requires-in-loop-on c =
    let l = c.loop-on.invariant in
    let g = l.1 c.loop-on-test.true in
    (omega (arith, c.requires.0, l.2, g.few, l.0.same), g.few)

pub overflow_add-e-in-loop-on : goal.overflow_add-e-in-loop-on
overflow_add-e-in-loop-on c =
    let l = c.loop-on.invariant in
    let g = l.1 c.loop-on-test.true in
    let w = some_whole _ _ _ _ l.0.some g.before in omega (arith, c.span_of-e.ensures, w.inside, c.well_formed)

pub stays-on-requires-in-loop-on : goal.stays-on-requires-in-loop-on
stays-on-requires-in-loop-on c =
    λ h. scan_whole _ _ _ _ _ _ _ _ _ _ _ (scan_more _ _ _ _ _ _ _ _ _ _ c.requires.0 c.loop-on.invariant.2 c.loop-on.invariant.0 (c.loop-on.invariant.1 c.loop-on-test.true) c.note-j-in-loop-on.ensures.0 c.note-j-in-loop-on.ensures.1 c.span_of-e.ensures) h

pub loop-on-smaller : goal.loop-on-smaller
loop-on-smaller c =
    let l = c.loop-on.invariant in
    let g = l.1 c.loop-on-test.true in
    let w = some_whole _ _ _ _ l.0.some g.before in omega (arith, c.span_of-e.ensures, w.long, g.before)

pub loop-on-preserved : goal.loop-on-preserved
loop-on-preserved c = (
  (scan_more _ _ _ _ _ _ _ _ _ _ c.requires.0 c.loop-on.invariant.2 c.loop-on.invariant.0 (c.loop-on.invariant.1 c.loop-on-test.true) c.note-j-in-loop-on.ensures.0 c.note-j-in-loop-on.ensures.1 c.span_of-e.ensures),
  c.stays-on-in-loop-on.ensures,
  c.loop-on.invariant.2,
)

pub shape_of-places : goal.shape_of-places
shape_of-places c =
    (scan_back (scan_first _ _ _ _ _ _ _ _ _ _ c.requires.0 c.requires.1 c.requires.2 c.requires.4 c.requires.5 c.open_at-begun.ensures.0 c.open_at-begun.ensures.1 c.note-j.ensures.0 c.note-j.ensures.1 c.span_of.ensures) c.loop-on.invariant.0).same

pub returns : goal.returns
returns c =
    scan_back (scan_first _ _ _ _ _ _ _ _ _ _ c.requires.0 c.requires.1 c.requires.2 c.requires.4 c.requires.5 c.open_at-begun.ensures.0 c.open_at-begun.ensures.1 c.note-j.ensures.0 c.note-j.ensures.1 c.span_of.ensures) c.loop-on.invariant.0

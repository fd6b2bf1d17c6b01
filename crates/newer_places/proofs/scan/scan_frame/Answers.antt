use mathlib.Core.Path.{◌≡◌, refl}
use mathlib.Core.Bool.{true}
use Prim.Native.Nat.{◌-◌, ◌≤◌}
use native.Mathlib.Omega.{arith}
use lib.ListN.{length}
use Rattle.newer_places.specs.Inner.{Stays}
use Rattle.newer_places.proofs.Scans.{scan_of, stood_whole, stood_span, stood_covers, passed_inside, scan_first, Going, going_first, going_back, going_more}
use Rattle.newer_places.proofs.scan.scan_frame.Reads as reads
use Rattle.newer_places.proofs.scan.scan_frame.Lts as lts
use Rattle.newer_places.proofs.scan.next_seat.Reads as next-seat-reads
use Rattle.newer_places.proofs.scan.note.Reads as note-reads
use Rattle.newer_places.proofs.scan.open_at.Reads as open-at-reads
use Rattle.newer_places.proofs.scan.stays.Reads as stays-reads
use Rattle.read_scan.proofs.event.span_of.Reads as span-of-reads
use Rattle.newer_places.proofs.scan.scan_frame.Goals as goal

pub open_at-begun-requires : goal.open_at-begun-requires
open_at-begun-requires c = let h = c.requires in let w = stood_whole h.5 h.2 in (omega (arith, w.long, w.inside), h.3)

pub bounds-file-at : goal.bounds-file-at
bounds-file-at c = let h = c.requires in let w = stood_whole h.5 h.2 in omega (arith, w.long, w.inside)

pub note-j-requires : goal.note-j-requires
note-j-requires c = let h = c.requires in (omega (arith, h.0, h.1), omega arith)

pub bounds-file-at-2 : goal.bounds-file-at-2
bounds-file-at-2 c = let h = c.requires in let w = stood_whole h.5 h.2 in omega (arith, w.long, w.inside)

pub span_of-requires : goal.span_of-requires
span_of-requires c = c.requires.4

pub overflow_add-at : goal.overflow_add-at
overflow_add-at c = let w = stood_span c.requires.5 c.requires.2 c.span_of.ensures.0 in omega (arith, w.1, w.2, c.well_formed)

pub next_seat-e-requires : goal.next_seat-e-requires
next_seat-e-requires c = let h = c.requires in (h.4, stood_covers h.5 h.2 c.span_of.ensures.0)

pub stays-on-requires : goal.stays-on-requires
stays-on-requires c = λ h. passed_inside c.next_seat-e.ensures h

pub loop-on-init : goal.loop-on-init
loop-on-init c =
    let h = c.requires in
    let o = c.open_at-begun.ensures in
    let n = c.note-j.ensures in
    let f = scan_first _ _ _ _ _ _ _ _ _ _ h.0 h.1 h.2 h.5 h.6 o.0 o.1 n.0 n.1 c.span_of.ensures.0 c.next_seat-e.ensures in
    (going_first f, c.stays-on.ensures, omega (arith, h.1, f.same))

pub bounds-file-e : goal.bounds-file-e
bounds-file-e c =
    let l = c.loop-on.invariant in
    let stay = l.1 c.loop-on-test.true in
    let w = stood_span l.0.one.stood stay.before refl in omega (arith, w.2, stay.before)

pub note-j-requires-in-loop-on : goal.note-j-requires-in-loop-on
note-j-requires-in-loop-on c =
    let l = c.loop-on.invariant in
    let stay = l.1 c.loop-on-test.true in
    (omega (arith, c.requires.0, l.2, stay.few, l.0.one.same), stay.few)

pub span_of-requires-in-loop-on : goal.span_of-requires-in-loop-on
span_of-requires-in-loop-on c = c.requires.4

pub overflow_add-e : goal.overflow_add-e
overflow_add-e c =
    let l = c.loop-on.invariant in
    let stay = l.1 c.loop-on-test.true in
    let w = stood_span l.0.one.stood stay.before c.span_of-in-loop-on.ensures.0 in omega (arith, w.1, w.2, c.well_formed)

pub next_seat-e-requires-in-loop-on : goal.next_seat-e-requires-in-loop-on
next_seat-e-requires-in-loop-on c =
    let l = c.loop-on.invariant in
    let stay = l.1 c.loop-on-test.true in
    (c.requires.4, stood_covers l.0.one.stood stay.before c.span_of-in-loop-on.ensures.0)

pub stays-on-requires-in-loop-on : goal.stays-on-requires-in-loop-on
stays-on-requires-in-loop-on c = λ h. passed_inside c.next_seat-e-in-loop-on.ensures h

pub loop-on-smaller : goal.loop-on-smaller
loop-on-smaller c =
    let l = c.loop-on.invariant in
    let stay = l.1 c.loop-on-test.true in
    let w = stood_span l.0.one.stood stay.before c.span_of-in-loop-on.ensures.0 in omega (arith, w.0, c.next_seat-e-in-loop-on.ensures.forward, stay.before)

pub loop-on-preserved : goal.loop-on-preserved
loop-on-preserved c =
    let l = c.loop-on.invariant in
    let stay = l.1 c.loop-on-test.true in
    let n = c.note-j-in-loop-on.ensures in
    let h = c.requires in
    (going_more l.0 h.0 l.2 stay n.0 n.1 c.span_of-in-loop-on.ensures.0 c.next_seat-e-in-loop-on.ensures, c.stays-on-in-loop-on.ensures, l.2)

pub shape_of-places : goal.shape_of-places
shape_of-places c =
    let h = c.requires in
    let o = c.open_at-begun.ensures in
    let n = c.note-j.ensures in
    let f = scan_first _ _ _ _ _ _ _ _ _ _ h.0 h.1 h.2 h.5 h.6 o.0 o.1 n.0 n.1 c.span_of.ensures.0 c.next_seat-e.ensures in
    (going_back f c.loop-on.invariant.0).same

pub returns : goal.returns
returns c =
    let h = c.requires in
    let o = c.open_at-begun.ensures in
    let n = c.note-j.ensures in
    let f = scan_first _ _ _ _ _ _ _ _ _ _ h.0 h.1 h.2 h.5 h.6 o.0 o.1 n.0 n.1 c.span_of.ensures.0 c.next_seat-e.ensures in
    going_back f c.loop-on.invariant.0

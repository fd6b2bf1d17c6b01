use mathlib.Core.Path.{refl, ◌∙◌}
use Prim.Native.Nat.{◌-◌, ◌≤◌}
use native.Mathlib.Omega.{arith}
use Rattle.read_event.specs.Known.{plan_in}
use Rattle.read_event.specs.Parts.{rows}
use Rattle.read_leap.proofs.Leaps.{leap_inside, leap_start, leap_end}
use Rattle.read_rows.proofs.Passing.{Lengths, Passing, passing_leap, passing_first, passing_rooms, passing_whole, passing_next, passing_on, passing_quiet, passing_done, offsets_done}
use Rattle.read_rows.proofs.pass.pass.Reads as reads
use Rattle.read_rows.proofs.pass.pass.Lts as lts
use Rattle.read_event.proofs.marks.mark_offsets.Reads as mark-offsets-reads
use Rattle.read_event.proofs.spans.span_of.Reads as span-of-reads
use Rattle.read_rows.proofs.pass.nothing.Reads as nothing-reads
use Rattle.read_turn.proofs.turn.turn.Reads as turn-reads
use Rattle.read_rows.proofs.pass.pass.Goals as goal

pub loop-at-init : goal.loop-at-init
loop-at-init c =
    (passing_first _ _ _ _ _ _ _ c.requires.1 c.nothing-s.ensures, omega arith)

pub leaps_at-e-requires : goal.leaps_at-e-requires
leaps_at-e-requires c =
    let l = c.loop-at.invariant in
    let w = passing_whole _ _ _ _ _ _ _ _ _ l.0 c.loop-at-test.true in
    (c.loop-at-test.true, omega (arith, w.long, w.inside), l.1, l.0.some)

pub overflow_sub-step : goal.overflow_sub-step
overflow_sub-step c = c.loop-at.invariant.1

pub leap-s-requires : goal.leap-s-requires
leap-s-requires c =
    let l = c.leaps_at-e.ensures c.if-e-gt0.true in
    let h = c.requires in
    let r = passing_rooms _ _ _ _ _ _ _ _ _ c.loop-at.invariant.0 h.2 in
    (leap_inside _ _ h.0 _ _ _ _ _ _ l, leap_start _ _ h.0 _ _ _ _ _ _ l, leap_end _ _ h.0 _ _ _ _ _ _ l, r.starts, r.ends, l.modest, l.starts, l.ends, h.3)

pub overflow_mul-last : goal.overflow_mul-last
overflow_mul-last c =
    let l = c.leaps_at-e.ensures c.if-e-gt0.true in omega (arith, l.leapt.ahead.inside, l.leapt.ahead.whole, c.well_formed)

pub overflow_add-last : goal.overflow_add-last
overflow_add-last c =
    let l = c.leaps_at-e.ensures c.if-e-gt0.true in omega (arith, l.leapt.ahead.inside, l.leapt.ahead.whole, c.well_formed)

pub overflow_add-at : goal.overflow_add-at
overflow_add-at c =
    let l = c.leaps_at-e.ensures c.if-e-gt0.true in omega (arith, l.leapt.ahead.inside, l.leapt.ahead.whole, c.well_formed)

pub loop-at-smaller-then-e-gt0 : goal.loop-at-smaller-then-e-gt0
loop-at-smaller-then-e-gt0 c =
    let l = c.leaps_at-e.ensures c.if-e-gt0.true in
    let k = leap_start _ _ c.requires.0 _ _ _ _ _ _ l in omega (arith, k, c.loop-at-test.true)

pub loop-at-preserved-then-e-gt0 : goal.loop-at-preserved-then-e-gt0
loop-at-preserved-then-e-gt0 c =
    let l = c.leaps_at-e.ensures c.if-e-gt0.true in
    let k = c.leap-s.auto in (
      passing_leap _ _ _ _ _ _ _ _ _ c.loop-at.invariant.0 c.requires.0 l c.leap-s.ensures
          (record {
            ids = k.ids;
            starts = k.starts;
            ends = k.ends;
            items = refl;
            fods = refl;
            whispys = refl;
            stadiums = refl;
            item_offsets = k.item_offsets;
            fod_offsets = k.fod_offsets;
            whispy_offsets = k.whispy_offsets;
            stadium_offsets = k.stadium_offsets;
          }),
      omega arith,
    )

pub bounds-file-at : goal.bounds-file-at
bounds-file-at c = let w = passing_whole _ _ _ _ _ _ _ _ _ c.loop-at.invariant.0 c.loop-at-test.true in omega (arith, w.long, w.inside)

pub overflow_add-next : goal.overflow_add-next
overflow_add-next c =
    let w = passing_whole _ _ _ _ _ _ _ _ _ c.loop-at.invariant.0 c.loop-at-test.true in omega (arith, w.inside, c.span_of.ensures, c.well_formed)

pub last_at-last-requires : goal.last_at-last-requires
last_at-last-requires c =
    let w = passing_whole _ _ _ _ _ _ _ _ _ c.loop-at.invariant.0 c.loop-at-test.true in (omega (arith, w.long, w.inside), c.loop-at.invariant.1)

pub turn-s-requires : goal.turn-s-requires
turn-s-requires c =
    let h = c.requires in
    let l = c.loop-at.invariant.0 in
    (h.0, passing_whole _ _ _ _ _ _ _ _ _ l c.loop-at-test.true, passing_rooms _ _ _ _ _ _ _ _ _ l h.2, h.3)

pub after_quiet-at-requires : goal.after_quiet-at-requires
after_quiet-at-requires c =
    passing_next _ _ _ _ _ _ _ _ _ c.loop-at.invariant.0 c.loop-at-test.true _ c.span_of.ensures

pub loop-at-smaller : goal.loop-at-smaller
loop-at-smaller c =
    let w = passing_whole _ _ _ _ _ _ _ _ _ c.loop-at.invariant.0 c.loop-at-test.true in omega (arith, w.long, c.span_of.ensures, c.loop-at-test.true, c.after_quiet-at.ensures.forward)

pub loop-at-preserved : goal.loop-at-preserved
loop-at-preserved c =
    let spans = c.requires.0 in
    let k = c.turn-s.auto in
    let on = passing_on _ _ _ _ _ _ _ _ _ c.loop-at.invariant.0 c.loop-at-test.true spans _ c.span_of.ensures _ _
    (record {
      ids = k.ids;
      starts = k.starts;
      ends = k.ends;
      items = k.items;
      fods = k.fods;
      whispys = k.whispys;
      stadiums = k.stadiums;
      item_offsets = k.item_offsets;
      fod_offsets = k.fod_offsets;
      whispy_offsets = k.whispy_offsets;
      stadium_offsets = k.stadium_offsets;
    })
    c.turn-s.ensures in
    (passing_quiet _ _ _ _ _ _ _ _ _ on spans c.after_quiet-at.ensures, omega (arith, c.last_at-last.ensures, c.after_quiet-at.ensures.forward))

pub shape_of-ids : goal.shape_of-ids
shape_of-ids c =
    c.loop-at.invariant.0.lengths.ids

pub shape_of-starts : goal.shape_of-starts
shape_of-starts c =
    c.loop-at.invariant.0.lengths.starts

pub shape_of-ends : goal.shape_of-ends
shape_of-ends c =
    c.loop-at.invariant.0.lengths.ends

pub shape_of-items : goal.shape_of-items
shape_of-items c =
    c.loop-at.invariant.0.lengths.items

pub shape_of-fods : goal.shape_of-fods
shape_of-fods c =
    c.loop-at.invariant.0.lengths.fods

pub shape_of-whispys : goal.shape_of-whispys
shape_of-whispys c =
    c.loop-at.invariant.0.lengths.whispys

pub shape_of-stadiums : goal.shape_of-stadiums
shape_of-stadiums c =
    c.loop-at.invariant.0.lengths.stadiums

pub shape_of-item_offsets : goal.shape_of-item_offsets
shape_of-item_offsets c =
    c.mark_offsets.auto.item_offsets ∙ c.loop-at.invariant.0.lengths.item_offsets

pub shape_of-fod_offsets : goal.shape_of-fod_offsets
shape_of-fod_offsets c =
    c.mark_offsets.auto.fod_offsets ∙ c.loop-at.invariant.0.lengths.fod_offsets

pub shape_of-whispy_offsets : goal.shape_of-whispy_offsets
shape_of-whispy_offsets c =
    c.mark_offsets.auto.whispy_offsets ∙ c.loop-at.invariant.0.lengths.whispy_offsets

pub shape_of-stadium_offsets : goal.shape_of-stadium_offsets
shape_of-stadium_offsets c =
    c.mark_offsets.auto.stadium_offsets ∙ c.loop-at.invariant.0.lengths.stadium_offsets

pub returns : goal.returns
returns c =
    λ es x. passing_done _ _ _ _ _ _ _ _ _ c.loop-at.invariant.0 c.requires.0 (omega (arith, c.loop-at-test.false)) _ (offsets_done _ _ _ _ _ _ _ c.mark_offsets.ensures) es x

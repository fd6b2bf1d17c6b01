use Prim.Native.Nat.{◌-◌}
use mathlib.Core.Path.{sym, ◌∙◌}
use native.Mathlib.Omega.{arith}
use Rattle.index_passes.proofs.Laws.{Comparing, comparing_start, comparing_past, comparing_other, starts_none, none_16, none_17, none_left, frame_near, frame_wide, frame_fit, frame_bytes_lem, frame_count, rows_yes, rows_no}
use Rattle.index_passes.proofs.same_rows.Goals as goal

pub returns-then-stop-here : goal.returns-then-stop-here
returns-then-stop-here c =
    let q = c.past_players-here in
    let i = comparing_past c.loop-place.invariant q.ensures in
    starts_none _ (none_left c.requires.0 q.result i.starts i.within c.if-stop-here.true) ∙ sym i.same

pub returns-then-span-eq0 : goal.returns-then-span-eq0
returns-then-span-eq0 c =
    let y = c.requires.0 in
    let q = c.past_players-here in
    let i = comparing_past c.loop-place.invariant q.ensures in
    let t = c.if-stop-here.false in
    let s = c.span_of-span in
    starts_none _ (none_16 y q.result i.starts t s.result s.ensures.0 c.if-span-eq0.true) ∙ sym i.same

pub returns-then-stop-here-2 : goal.returns-then-stop-here-2
returns-then-stop-here-2 c =
    let y = c.requires.0 in
    let q = c.past_players-here in
    let i = comparing_past c.loop-place.invariant q.ensures in
    let t = c.if-stop-here.false in
    let s = c.span_of-span in
    starts_none _ (none_17 y q.result i.starts t s.result s.ensures.0 c.if-span-eq0.false c.if-stop-here-2.true) ∙ sym i.same

pub overflow_add-here : goal.overflow_add-here
overflow_add-here c =
    let y = c.requires.0 in
    let q = c.past_players-here in
    let i = comparing_past c.loop-place.invariant q.ensures in
    let t = c.if-stop-here.false in
    let s = c.span_of-span in
    omega (arith, y.headed.within)

pub get_be-id-requires : goal.get_be-id-requires
get_be-id-requires c =
    let y = c.requires.0 in
    let q = c.past_players-here in
    let i = comparing_past c.loop-place.invariant q.ensures in
    let t = c.if-stop-here.false in
    let s = c.span_of-span in
    let w = frame_wide y q.result i.starts t s.result s.ensures.0 c.if-span-eq0.false c.if-stop-here-2.false c.if-code-eq-FRAME_START.true i.fit in
    (omega arith, omega (arith, y.headed.within))

pub overflow_cast-here : goal.overflow_cast-here
overflow_cast-here c =
    let y = c.requires.0 in
    let q = c.past_players-here in
    let i = comparing_past c.loop-place.invariant q.ensures in
    let t = c.if-stop-here.false in
    let s = c.span_of-span in
    let n = frame_near y q.result i.starts t s.result s.ensures.0 c.if-span-eq0.false c.if-stop-here-2.false c.if-code-eq-FRAME_START.true i.fit in
    omega arith

pub row_stands-requires : goal.row_stands-requires
row_stands-requires c =
    let y = c.requires.0 in
    let q = c.past_players-here in
    let i = comparing_past c.loop-place.invariant q.ensures in
    let t = c.if-stop-here.false in
    let s = c.span_of-span in
    omega (arith, i.long, frame_count y q.result i.starts t s.result s.ensures.0 c.if-span-eq0.false c.if-stop-here-2.false c.if-code-eq-FRAME_START.true)

pub overflow_add-p : goal.overflow_add-p
overflow_add-p c =
    let y = c.requires.0 in
    let q = c.past_players-here in
    let i = comparing_past c.loop-place.invariant q.ensures in
    let t = c.if-stop-here.false in
    let s = c.span_of-span in
    omega (arith, i.long, frame_count y q.result i.starts t s.result s.ensures.0 c.if-span-eq0.false c.if-stop-here-2.false c.if-code-eq-FRAME_START.true, c.well_formed)

pub loop-place-preserved-then-row_stands : goal.loop-place-preserved-then-row_stands
loop-place-preserved-then-row_stands c =
    let y = c.requires.0 in
    let q = c.past_players-here in
    let i = comparing_past c.loop-place.invariant q.ensures in
    let t = c.if-stop-here.false in
    let s = c.span_of-span in
    let g = c.get_be-id in
    let r = c.row_stands in
    record {
      starts = omega (arith, i.starts);
      within = omega (arith, t);
      fit = frame_fit y q.result i.starts t s.result s.ensures.0 c.if-span-eq0.false c.if-stop-here-2.false c.if-code-eq-FRAME_START.true i.fit;
      long = omega (arith, i.long, frame_count y q.result i.starts t s.result s.ensures.0 c.if-span-eq0.false c.if-stop-here-2.false c.if-code-eq-FRAME_START.true);
      same = i.same ∙ rows_yes _ c.loop-place.p (record { id = g.result; offset = q.result }) _ (frame_bytes_lem y q.result i.starts t s.result s.ensures.0 c.if-span-eq0.false c.if-stop-here-2.false c.if-code-eq-FRAME_START.true g.result g.ensures) r.result r.ensures c.if-row_stands.true;
    }

pub returns-else-row_stands : goal.returns-else-row_stands
returns-else-row_stands c =
    let y = c.requires.0 in
    let q = c.past_players-here in
    let i = comparing_past c.loop-place.invariant q.ensures in
    let t = c.if-stop-here.false in
    let s = c.span_of-span in
    let g = c.get_be-id in
    let r = c.row_stands in
    sym (i.same ∙ rows_no _ c.loop-place.p (record { id = g.result; offset = q.result }) _
    (frame_bytes_lem y q.result i.starts t s.result s.ensures.0 c.if-span-eq0.false c.if-stop-here-2.false c.if-code-eq-FRAME_START.true g.result g.ensures)
    r.result r.ensures c.if-row_stands.false)

pub loop-place-preserved : goal.loop-place-preserved
loop-place-preserved c =
    let y = c.requires.0 in
    let q = c.past_players-here in
    let i = comparing_past c.loop-place.invariant q.ensures in
    let t = c.if-stop-here.false in
    let s = c.span_of-span in
    comparing_other y i t s.result s.ensures.0 c.if-span-eq0.false c.if-stop-here-2.false c.if-code-eq-FRAME_START.false

pub returns : goal.returns
returns c =
    let i = c.loop-place.invariant in
    starts_none _ (none_left c.requires.0 c.loop-place.place i.starts i.within c.loop-place-test.false) ∙ sym i.same

pub loop-place-init : goal.loop-place-init
loop-place-init c = comparing_start c.requires.0 _ _ c.requires.1

pub past_players-here-requires : goal.past_players-here-requires
past_players-here-requires c = (c.requires.0.headed, c.loop-place.invariant.starts, c.loop-place.invariant.within)

pub bounds-file-here : goal.bounds-file-here
bounds-file-here c = omega (arith, c.requires.0.headed.within, c.if-stop-here.false)

pub span_of-span-requires : goal.span_of-span-requires
span_of-span-requires c = c.requires.0.headed.many

pub overflow_sub-stop : goal.overflow_sub-stop
overflow_sub-stop c = omega (arith, c.if-stop-here.false)

pub overflow_add-place : goal.overflow_add-place
overflow_add-place c = omega (arith, c.requires.0.headed.within)

pub loop-place-smaller-then-row_stands : goal.loop-place-smaller-then-row_stands
loop-place-smaller-then-row_stands c = omega (arith, c.past_players-here.ensures.onward)

pub loop-place-smaller : goal.loop-place-smaller
loop-place-smaller c = omega (arith, c.past_players-here.ensures.onward)

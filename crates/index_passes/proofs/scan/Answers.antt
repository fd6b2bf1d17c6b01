use Prim.Native.Nat.{◌-◌}
use native.Mathlib.Omega.{arith}
use Rattle.index_passes.proofs.Laws.{Going, going_start, going_past, as_present, scan_unlisted, scan_overrun, scan_cut, going_frame, going_other, scan_done}
use Rattle.index_passes.proofs.scan.Goals as goal

pub returns-then-stop-here : goal.returns-then-stop-here
returns-then-stop-here c =
    scan_done c.requires (going_past c.loop-place.invariant c.past_players-here.ensures) c.if-stop-here.true

pub returns-then-span-eq0 : goal.returns-then-span-eq0
returns-then-span-eq0 c =
    let y = c.requires in
    let q = c.past_players-here in
    let i = going_past c.loop-place.invariant q.ensures in
    let t = c.if-stop-here.false in
    let s = c.span_of-span in
    scan_unlisted y i t s.result s.ensures.0 c.if-span-eq0.true c.refused.result c.refused.ensures

pub returns-then-whole : goal.returns-then-whole
returns-then-whole c =
    let y = c.requires in
    let q = c.past_players-here in
    let i = going_past c.loop-place.invariant q.ensures in
    let t = c.if-stop-here.false in
    let s = c.span_of-span in
    scan_overrun y i t s.result s.ensures.0 c.if-span-eq0.false c.if-stop-here-2.true c.if-whole.true c.refused-then-whole.result c.refused-then-whole.ensures

pub returns-then-stop-here-2 : goal.returns-then-stop-here-2
returns-then-stop-here-2 c =
    let y = c.requires in
    let q = c.past_players-here in
    let i = going_past c.loop-place.invariant q.ensures in
    let t = c.if-stop-here.false in
    let s = c.span_of-span in
    scan_cut y i t s.result s.ensures.0 c.if-span-eq0.false c.if-stop-here-2.true c.if-whole.false

pub loop-place-preserved-then-code-eq-FRAME_START : goal.loop-place-preserved-then-code-eq-FRAME_START
loop-place-preserved-then-code-eq-FRAME_START c =
    let y = c.requires in
    let q = c.past_players-here in
    let i = going_past c.loop-place.invariant q.ensures in
    let t = c.if-stop-here.false in
    let s = c.span_of-span in
    going_frame y i t s.result s.ensures.0 c.if-span-eq0.false c.if-stop-here-2.false c.if-code-eq-FRAME_START.true

pub loop-place-preserved : goal.loop-place-preserved
loop-place-preserved c =
    let y = c.requires in
    let q = c.past_players-here in
    let i = going_past c.loop-place.invariant q.ensures in
    let t = c.if-stop-here.false in
    let s = c.span_of-span in
    going_other y i t s.result s.ensures.0 c.if-span-eq0.false c.if-stop-here-2.false c.if-code-eq-FRAME_START.false

pub loop-place-init : goal.loop-place-init
loop-place-init c = going_start c.requires

pub past_players-here-requires : goal.past_players-here-requires
past_players-here-requires c = (as_present c.requires, c.loop-place.invariant.starts, c.loop-place.invariant.within)

pub bounds-file-here : goal.bounds-file-here
bounds-file-here c = omega (arith, c.requires.within, c.if-stop-here.false)

pub span_of-span-requires : goal.span_of-span-requires
span_of-span-requires c = c.requires.many

pub overflow_sub-stop : goal.overflow_sub-stop
overflow_sub-stop c = omega (arith, c.if-stop-here.false)

pub overflow_add-place : goal.overflow_add-place
overflow_add-place c = omega (arith, c.requires.within)

pub overflow_add-frames : goal.overflow_add-frames
overflow_add-frames c = omega (arith, c.requires.within, c.loop-place.invariant.few)

pub loop-place-smaller-then-code-eq-FRAME_START : goal.loop-place-smaller-then-code-eq-FRAME_START
loop-place-smaller-then-code-eq-FRAME_START c = omega (arith, c.past_players-here.ensures.onward)

pub loop-place-smaller : goal.loop-place-smaller
loop-place-smaller c = omega (arith, c.past_players-here.ensures.onward)

pub returns : goal.returns
returns c = scan_done c.requires c.loop-place.invariant c.loop-place-test.false

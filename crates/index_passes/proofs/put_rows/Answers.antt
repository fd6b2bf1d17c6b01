use Prim.Native.Nat.{◌-◌}
use native.Mathlib.Omega.{arith}
use Rattle.wire.proofs.Writers.{left_step, left_room, left_done}
use Rattle.index_passes.proofs.Laws.{Putting, putting_start, putting_past, putting_other, none_16, none_17, none_left, frame_near, frame_wide, frame_fit, frame_bytes_lem}
use Rattle.index_passes.proofs.put_rows.Goals as goal

pub returns-then-stop-here : goal.returns-then-stop-here
returns-then-stop-here c =
    let q = c.past_players-here in
    let i = putting_past c.loop-place.invariant q.ensures in
    left_done i.left (none_left c.requires.0 q.result i.starts i.within c.if-stop-here.true)

pub returns-then-span-eq0 : goal.returns-then-span-eq0
returns-then-span-eq0 c =
    let y = c.requires.0 in
    let q = c.past_players-here in
    let i = putting_past c.loop-place.invariant q.ensures in
    let t = c.if-stop-here.false in
    let s = c.span_of-span in
    left_done i.left (none_16 y q.result i.starts t s.result s.ensures.0 c.if-span-eq0.true)

pub returns-then-stop-here-2 : goal.returns-then-stop-here-2
returns-then-stop-here-2 c =
    let y = c.requires.0 in
    let q = c.past_players-here in
    let i = putting_past c.loop-place.invariant q.ensures in
    let t = c.if-stop-here.false in
    let s = c.span_of-span in
    left_done i.left (none_17 y q.result i.starts t s.result s.ensures.0 c.if-span-eq0.false c.if-stop-here-2.true)

pub overflow_add-here : goal.overflow_add-here
overflow_add-here c =
    let y = c.requires.0 in
    let q = c.past_players-here in
    let i = putting_past c.loop-place.invariant q.ensures in
    let t = c.if-stop-here.false in
    let s = c.span_of-span in
    omega (arith, y.headed.within)

pub get_be-id-requires : goal.get_be-id-requires
get_be-id-requires c =
    let y = c.requires.0 in
    let q = c.past_players-here in
    let i = putting_past c.loop-place.invariant q.ensures in
    let t = c.if-stop-here.false in
    let s = c.span_of-span in
    let w = frame_wide y q.result i.starts t s.result s.ensures.0 c.if-span-eq0.false c.if-stop-here-2.false c.if-code-eq-FRAME_START.true i.fit in
    (omega arith, omega (arith, y.headed.within))

pub overflow_cast-here : goal.overflow_cast-here
overflow_cast-here c =
    let y = c.requires.0 in
    let q = c.past_players-here in
    let i = putting_past c.loop-place.invariant q.ensures in
    let t = c.if-stop-here.false in
    let s = c.span_of-span in
    let n = frame_near y q.result i.starts t s.result s.ensures.0 c.if-span-eq0.false c.if-stop-here-2.false c.if-code-eq-FRAME_START.true i.fit in
    omega arith

pub put_row-p-requires : goal.put_row-p-requires
put_row-p-requires c =
    let y = c.requires.0 in
    let q = c.past_players-here in
    let i = putting_past c.loop-place.invariant q.ensures in
    let t = c.if-stop-here.false in
    let s = c.span_of-span in
    left_room _ i.left
    (frame_bytes_lem y q.result i.starts t s.result s.ensures.0 c.if-span-eq0.false c.if-stop-here-2.false c.if-code-eq-FRAME_START.true c.get_be-id.result c.get_be-id.ensures)
    c.requires.1

pub loop-place-preserved-then-code-eq-FRAME_START : goal.loop-place-preserved-then-code-eq-FRAME_START
loop-place-preserved-then-code-eq-FRAME_START c =
    let y = c.requires.0 in
    let q = c.past_players-here in
    let i = putting_past c.loop-place.invariant q.ensures in
    let t = c.if-stop-here.false in
    let s = c.span_of-span in
    record {
      starts = omega (arith, i.starts);
      within = omega (arith, t);
      fit = frame_fit y q.result i.starts t s.result s.ensures.0 c.if-span-eq0.false c.if-stop-here-2.false c.if-code-eq-FRAME_START.true i.fit;
      left = left_step i.left (frame_bytes_lem y q.result i.starts t s.result s.ensures.0 c.if-span-eq0.false c.if-stop-here-2.false c.if-code-eq-FRAME_START.true c.get_be-id.result c.get_be-id.ensures) c.put_row-p.ensures;
    }

pub loop-place-preserved : goal.loop-place-preserved
loop-place-preserved c =
    let y = c.requires.0 in
    let q = c.past_players-here in
    let i = putting_past c.loop-place.invariant q.ensures in
    let t = c.if-stop-here.false in
    let s = c.span_of-span in
    putting_other y i t s.result s.ensures.0 c.if-span-eq0.false c.if-stop-here-2.false c.if-code-eq-FRAME_START.false

pub returns : goal.returns
returns c =
    let i = c.loop-place.invariant in
    left_done i.left (none_left c.requires.0 c.loop-place.place i.starts i.within c.loop-place-test.false)

pub loop-place-init : goal.loop-place-init
loop-place-init c = putting_start c.requires.0

pub past_players-here-requires : goal.past_players-here-requires
past_players-here-requires c = (c.requires.0.headed, c.loop-place.invariant.starts, c.loop-place.invariant.within)

pub shape_of-out-then-stop-here : goal.shape_of-out-then-stop-here
shape_of-out-then-stop-here c = c.loop-place.invariant.left.same

pub bounds-file-here : goal.bounds-file-here
bounds-file-here c = omega (arith, c.requires.0.headed.within, c.if-stop-here.false)

pub span_of-span-requires : goal.span_of-span-requires
span_of-span-requires c = c.requires.0.headed.many

pub shape_of-out-then-span-eq0 : goal.shape_of-out-then-span-eq0
shape_of-out-then-span-eq0 c = c.loop-place.invariant.left.same

pub overflow_sub-stop : goal.overflow_sub-stop
overflow_sub-stop c = omega (arith, c.if-stop-here.false)

pub shape_of-out-then-stop-here-2 : goal.shape_of-out-then-stop-here-2
shape_of-out-then-stop-here-2 c = c.loop-place.invariant.left.same

pub overflow_add-place : goal.overflow_add-place
overflow_add-place c = omega (arith, c.requires.0.headed.within)

pub loop-place-smaller-then-code-eq-FRAME_START : goal.loop-place-smaller-then-code-eq-FRAME_START
loop-place-smaller-then-code-eq-FRAME_START c = omega (arith, c.past_players-here.ensures.onward)

pub loop-place-smaller : goal.loop-place-smaller
loop-place-smaller c = omega (arith, c.past_players-here.ensures.onward)

pub shape_of-out : goal.shape_of-out
shape_of-out c = c.loop-place.invariant.left.same

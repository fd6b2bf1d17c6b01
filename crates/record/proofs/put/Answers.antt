use mathlib.Core.Path.{ap}
use Prim.Native.Nat.{◌+◌, ◌≤◌}
use native.Mathlib.Omega.{arith}
use lib.ListN.{length}
use lib.Seq.{take-length}
use Rattle.wire.proofs.Laws.{length_be}
use Rattle.wire.proofs.Writers.{Behind, behind_done}
use Rattle.layout.specs.Columns.{sum}
use Rattle.record.specs.Inner.{head_bytes}
use Rattle.record.proofs.Laws.{Turn, turn, none_left, head_room, length_record, put_start, put_step}
use Rattle.record.proofs.put.Goals as goal
use Rattle.record.proofs.put.Goals.{In-loop-k, Start}

-- the record fits, as a number
room : (c : Start) → let a = c.args in a.at + (length (head_bytes a.h) + sum a.widths.now) ≤ length a.out.now
room c = let a = c.args in rw (length_record a.h a.widths.now a.cells.now a.stride a.first) at c.requires.2.fits

pub loop-k-init : goal.loop-k-init
loop-k-init c =
    let a = c.args in
    let all = ap sum (take-length a.widths.now) in
    (omega arith, omega (arith, c.head_len.ensures), put_start _ _ _ _ _)

-- what a turn knows of its column
this : (c : In-loop-k)
    → let a = c.args in Turn a.widths.now a.cells.now a.stride a.first c.loop-k.k
this c = turn _ _ _ _ _ c.requires.1 c.loop-k-test.true c.loop-k.invariant.0

pub put_u32-q-requires : goal.put_u32-q-requires
put_u32-q-requires c =
    let l = c.loop-k in
    let t = this (goal.at.put_u32-q-requires c).In-loop-k in
    record { fits = rw length_be (omega (arith, room ((goal.at.put_u32-q-requires c).Start), head_room c.args.h, t.within, l.invariant.1, l.invariant.2.same)) }

pub loop-k-preserved : goal.loop-k-preserved
loop-k-preserved c =
    let l = c.loop-k in
    let t = this (goal.at.loop-k-preserved c).In-loop-k in (
      omega arith,
      omega (arith, t.total, l.invariant.1, c.wide-q.ensures.0),
      put_step _ _ _ _ _ l.k l.q c.wide-q.result t l.invariant.1 c.wide-q.ensures.0 l.invariant.2 c.put_u32-q.ensures,
    )

pub put_head-requires : goal.put_head-requires
put_head-requires c = record { fits = omega (arith, room (goal.at.put_head-requires c).Start, c.loop-k.invariant.2.same) }

pub returns : goal.returns
returns c =
    let l = c.loop-k in
    let a = c.args in
    let b : Behind _ _ _ l.out (head_bytes a.h) = rw (none_left a.widths.now a.cells.now a.stride a.first l.k c.loop-k-test.false (head_bytes a.h)) at l.invariant.2 in
    behind_done b c.put_head.ensures
    (omega (arith, length_record a.h a.widths.now a.cells.now a.stride a.first, c.head_len.ensures, c.requires.0))

pub overflow_add-end : goal.overflow_add-end
overflow_add-end c = omega (arith, room (goal.at.overflow_add-end c).Start)

pub overflow_add-end-2 : goal.overflow_add-end-2
overflow_add-end-2 c = omega (arith, room (goal.at.overflow_add-end-2 c).Start)

pub overflow_sub-q : goal.overflow_sub-q
overflow_sub-q c = omega (arith, this (goal.at.overflow_sub-q c).In-loop-k, head_room c.args.h)

pub overflow_mul-k : goal.overflow_mul-k
overflow_mul-k c = omega (arith, this (goal.at.overflow_mul-k c).In-loop-k)

pub overflow_add-first : goal.overflow_add-first
overflow_add-first c = omega (arith, this (goal.at.overflow_add-first c).In-loop-k)

pub offset_bounds-cells-first : goal.offset_bounds-cells-first
offset_bounds-cells-first c = omega (arith, this (goal.at.offset_bounds-cells-first c).In-loop-k)

pub bounds-cells-first : goal.bounds-cells-first
bounds-cells-first c = (this (goal.at.bounds-cells-first c).In-loop-k).inside

pub overflow_sub-q-in-loop-k : goal.overflow_sub-q-in-loop-k
overflow_sub-q-in-loop-k c = omega (arith, this (goal.at.overflow_sub-q-in-loop-k c).In-loop-k, c.wide-q.ensures.0)

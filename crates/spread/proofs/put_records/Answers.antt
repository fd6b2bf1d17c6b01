use mathlib.Core.Path.{ap}
use Prim.Native.Nat.{◌+◌}
use native.Mathlib.Omega.{arith}
use lib.ListN.{length}
use lib.Seq.{take-length}
use Rattle.layout.specs.Columns.{sum}
use Rattle.record.specs.Inner.{head_bytes}
use Rattle.record.proofs.Laws.{Turn, turn, head_room}
use Rattle.spread.specs.Inner.{Reach}
use Rattle.spread.proofs.Laws.{place_is, record_at_lem, heads_of, records_start, records_step, records_done}
use Rattle.spread.proofs.put_records.Goals as goal
use Rattle.spread.proofs.put_records.Goals.{In-loop-k, Start}

-- a record fits the output at each place, as numbers
room : (c : Start) → let a = c.args in Reach a.out.now a.places.now a.i (a.off + (length (head_bytes a.h) + a.bytes))
room c =
    let a = c.args in
    λ t h.
    omega (arith, record_at_lem a.h a.ids.now a.j a.widths.now a.cells.now a.stride a.first t, c.requires.0, c.requires.4.fits t h, place_is a.places.now a.i a.off t)

pub loop-k-init : goal.loop-k-init
loop-k-init c =
    let a = c.args in
    let all = ap sum (take-length a.widths.now) in
    (omega arith, omega (arith, c.head_len.ensures), records_start a.h a.ids.now a.j a.widths.now a.cells.now a.stride a.first)

-- what a turn knows of its column in the last of the rows
this : (c : In-loop-k)
    → let a = c.args in Turn a.widths.now a.cells.now a.stride (a.first + 7) c.loop-k.k
this c = turn _ _ _ _ _ c.requires.1 c.loop-k-test.true c.loop-k.invariant.0

pub put_column-requires : goal.put_column-requires
put_column-requires c =
    let l = c.loop-k in
    let t = this (goal.at.put_column-requires c).In-loop-k in
    let heads = head_room c.args.h in
    (omega (arith, t.inside), c.requires.3, λ j h. omega (arith, t.within, heads, l.invariant.1, l.invariant.2.same, c.requires.0, room (goal.at.put_column-requires c).Start j h))

pub loop-k-preserved : goal.loop-k-preserved
loop-k-preserved c =
    let l = c.loop-k in
    let t = this (goal.at.loop-k-preserved c).In-loop-k in
    let a = c.args in (
      omega arith,
      omega (arith, t.total, l.invariant.1, c.wide-q.ensures.0),
      records_step a.h a.ids.now a.j a.widths.now a.cells.now a.stride a.first a.places.now a.i a.off l.k l.q c.wide-q.result t
          c.loop-k-test.true l.invariant.0 l.invariant.1 c.wide-q.ensures.0 c.requires.4 l.invariant.2 c.put_column.ensures,
    )

pub put_heads-requires : goal.put_heads-requires
put_heads-requires c =
    let a = c.args in
    (c.requires.2, c.requires.3, heads_of a.h a.ids.now a.j a.widths.now a.cells.now a.stride a.first c.loop-k.invariant.2.same c.requires.4)

pub returns : goal.returns
returns c =
    let a = c.args in
    let l = c.loop-k in
    let e = c.head_len.ensures in
    record {
      next_is = λ t h. omega (arith, e, c.requires.0, record_at_lem a.h a.ids.now a.j a.widths.now a.cells.now a.stride a.first t, place_is a.places.now a.i a.off t, place_is a.places.now a.i (a.off + (c.head_len.result + a.bytes)) t);
      after_is = (records_done a.h a.ids.now a.j a.widths.now a.cells.now a.stride a.first l.k c.loop-k-test.false l.invariant.2 c.put_heads.ensures).after_is;
    }

pub overflow_add-end : goal.overflow_add-end
overflow_add-end c = omega (arith, c.head_len.ensures, room (goal.at.overflow_add-end c).Start 0 (omega arith))

pub overflow_add-end-2 : goal.overflow_add-end-2
overflow_add-end-2 c = omega (arith, c.head_len.ensures, room (goal.at.overflow_add-end-2 c).Start 0 (omega arith))

pub overflow_sub-q : goal.overflow_sub-q
overflow_sub-q c = omega (arith, c.loop-k.invariant.1, head_room c.args.h)

pub overflow_sub-q-in-loop-k : goal.overflow_sub-q-in-loop-k
overflow_sub-q-in-loop-k c = omega (arith, this (goal.at.overflow_sub-q-in-loop-k c).In-loop-k, c.wide-q.ensures.0, c.loop-k.invariant.1)

pub overflow_mul-k : goal.overflow_mul-k
overflow_mul-k c = omega (arith, this (goal.at.overflow_mul-k c).In-loop-k, c.well_formed)

pub overflow_add-first : goal.overflow_add-first
overflow_add-first c = omega (arith, this (goal.at.overflow_add-first c).In-loop-k, c.well_formed)

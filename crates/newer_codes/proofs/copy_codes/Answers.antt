use native.Mathlib.Omega.{arith}
use mathlib.Core.List.{List}
use mathlib.Core.Path.{◌≡◌}
use Prim.Native.Nat.{◌-◌, ◌≤◌}
use lib.ListN.{length}
use Rattle.grammar.specs.Productions.{Block}
use Rattle.read_outline.proofs.Laws.{room_part, wrote_part}
use Rattle.newer_codes.specs.Codes.{BlocksLie}
use Rattle.newer_codes.proofs.Copies.{Copying, Turn, copy_first, copy_laid, copy_turn, copy_room, copy_next, copy_done, all_room}
use Rattle.newer_codes.proofs.copy_codes.Goals as goal
use Rattle.newer_codes.proofs.copy_codes.Goals.{After-next_known-at}

pub loop-b-init : goal.loop-b-init
loop-b-init c = (omega arith, λ bs l n. copy_first _ _ _ _ _ bs _ l n)

pub next_known-at-requires : goal.next_known-at-requires
next_known-at-requires c = let h = c.requires in copy_laid _ _ _ _ _ _ _ _ _ _ (c.loop-b.invariant.1 h.2.blocks h.2.lie h.2.count_is) h.1 h.0

-- a turn's block, of those that are asked for
turn : (c : After-next_known-at) → let l = c.loop-b in
    Turn c.args.file.now c.args.spans.now c.args.stop c.args.blocks c.args.codes.now c.requires.2.blocks l.codes c.next_known-at.result l.p l.b
turn c =
    let h = c.requires in
    copy_turn _ _ _ _ _ _ _ _ _ _ (c.loop-b.invariant.1 h.2.blocks h.2.lie h.2.count_is) c.loop-b-test.true _ c.next_known-at.ensures.2

pub overflow_add-from : goal.overflow_add-from
overflow_add-from c = let s = (turn c).stands in omega (arith, s.wide, s.inside, c.well_formed)

pub overflow_add-from-in-loop-b : goal.overflow_add-from-in-loop-b
overflow_add-from-in-loop-b c = let s = (turn (goal.at.overflow_add-from-in-loop-b c).After-next_known-at).stands in omega (arith, s.wide, s.inside, c.well_formed)

pub slice_bounds-put_bytes-start : goal.slice_bounds-put_bytes-start
slice_bounds-put_bytes-start c = let s = (turn (goal.at.slice_bounds-put_bytes-start c).After-next_known-at).stands in omega (arith, s.wide, s.inside, c.requires.1)

pub slice_bounds-put_bytes-end : goal.slice_bounds-put_bytes-end
slice_bounds-put_bytes-end c = let s = (turn (goal.at.slice_bounds-put_bytes-end c).After-next_known-at).stands in omega (arith, s.wide, s.inside, c.requires.1)

pub put_bytes-p-requires : goal.put_bytes-p-requires
put_bytes-p-requires c =
    let some = c.requires.2 in
    room_part c.args.file.now _ (copy_room _ _ _ _ _ _ _ _ _ _ (turn (goal.at.put_bytes-p-requires c).After-next_known-at) (all_room _ _ _ _ _ _ _ some.lie some.count_is c.requires.3))

pub span_of-at-requires : goal.span_of-at-requires
span_of-at-requires c = c.requires.0

pub overflow_add-at : goal.overflow_add-at
overflow_add-at c = let s = (turn (goal.at.overflow_add-at c).After-next_known-at).stands in omega (arith, s.wide, s.inside, c.span_of-at.ensures.0, c.well_formed)

pub overflow_add-b : goal.overflow_add-b
overflow_add-b c = omega (arith, c.loop-b-test.true, c.well_formed)

pub loop-b-smaller : goal.loop-b-smaller
loop-b-smaller c = omega (arith, c.loop-b-test.true)

pub loop-b-preserved : goal.loop-b-preserved
loop-b-preserved c =
    let test = c.loop-b-test.true in (
      omega (arith, test),
      λ bs l n.
          copy_next _ _ _ _ _ bs _ _ _ _ (copy_turn _ _ _ _ _ bs _ _ _ _ (c.loop-b.invariant.1 bs l n) test _ c.next_known-at.ensures.2) _ _ _
          (wrote_part c.args.file.now _ c.put_bytes-p.ensures)
          c.span_of-at.ensures.0,
    )

pub shape_of-codes : goal.shape_of-codes
shape_of-codes c = let h = c.requires in (c.loop-b.invariant.1 h.2.blocks h.2.lie h.2.count_is).left.same

pub returns : goal.returns
returns c = λ bs l n. copy_done _ _ _ _ _ bs _ _ _ _ (c.loop-b.invariant.1 bs l n) c.loop-b-test.false

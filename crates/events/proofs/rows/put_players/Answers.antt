use mathlib.Core.Path.{sym, ◌∙◌}
use native.Mathlib.Omega.{arith}
use Rattle.wire.proofs.Writers.{range_start, range_room, range_step, range_done, room_kept, wrote_kept, wrote_none}
use Rattle.events.specs.Inner.{slots_bytes}
use Rattle.events.proofs.Laws.{row_in, first_small}
use Rattle.events.proofs.rows.put_players.Goals as goal
use Rattle.events.proofs.rows.put_players.Goals.{then-is_present, else-is_present}

pub loop-k-init : goal.loop-k-init
unfolding slots_bytes
loop-k-init c = (omega arith, range_start _ _)

pub overflow_mul-row : goal.overflow_mul-row
overflow_mul-row c = omega (arith, first_small c.args.m.block c.loop-k.k c.args.i (omega arith) c.requires.0.small (omega arith))

pub overflow_add-row : goal.overflow_add-row
overflow_add-row c = omega (arith, first_small c.args.m.block c.loop-k.k c.args.i (omega arith) c.requires.0.small (omega arith))

pub put_row-p-requires : goal.put_row-p-requires
put_row-p-requires c =
    let l = c.loop-k in
    let q = c.requires.0 in
    let t = c.loop-k-test.true in
    let here = sym c.is_present.ensures ∙ c.if-is_present.true in
    (q.few, q.total, row_in c.args.m c.args.cells.now c.args.s.count l.k c.args.i q t c.requires.2, room_kept _ _ here (range_room _ l.k _ l.invariant.1 t c.requires.4))

pub loop-k-preserved : goal.loop-k-preserved
loop-k-preserved c =
    let l = c.loop-k in
    elim c.if-is_present.branch [
      | then-is_present w ↦
          let here = sym c.is_present.ensures ∙ w.if-is_present.true in
          rw (w.out-is, w.p-is) (omega arith, range_step _ l.k _ l.invariant.1 c.loop-k-test.true (wrote_kept _ _ here w.put_row-p.ensures))
      | else-is_present w ↦
          let gone = sym c.is_present.ensures ∙ w.if-is_present.false in
          rw (w.out-is, w.p-is) (omega arith, range_step _ l.k _ l.invariant.1 c.loop-k-test.true (wrote_none _ _ _ _ gone))
    ]

pub shape_of-out : goal.shape_of-out
shape_of-out c = c.loop-k.invariant.1.same

pub returns : goal.returns
returns c = range_done _ _ _ c.loop-k.invariant.1 c.loop-k-test.false

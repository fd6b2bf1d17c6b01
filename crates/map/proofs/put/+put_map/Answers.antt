use mathlib.Core.Path.{refl, sym, ◌∙◌}
use Prim.Native.Nat.{◌-◌, ◌<◌}
use native.Mathlib.Nat.{sub-zero}
use native.Mathlib.Omega.{arith}
use Rattle.wire.proofs.Writers.{left_start, left_step, left_room, left_done}
use Rattle.map.proofs.Laws.{one_less, row_of}
use Rattle.map.proofs.Turns.{head_of, plain_turn, nested_turn, nested_again, no_more}
use Rattle.map.proofs.put.+put_map.Goals.{then-cell-eq2, else-cell-eq2}
use Rattle.map.proofs.put.+put_map.Goals as goal

pub loop-init : goal.loop-init
loop-init t c = rw (sub-zero c.args.count) (c.requires.0, refl, left_start)

pub put_key-p-requires : goal.put_key-p-requires
put_key-p-requires t c = let l = c.loop.invariant in let h = head_of _ _ _ _ _ (omega (arith, c.loop-test.true)) l.0 in (h.row, left_room _ l.2 h.first c.requires.1)

pub put_u8-p-requires : goal.put_u8-p-requires
put_u8-p-requires t c =
    let l = c.loop.invariant in
    let n = nested_turn _ _ _ _ _ (omega (arith, c.loop-test.true)) c.cell.ensures.0 c.if-cell-eq2.true refl l.0 in
    left_room _ (left_step l.2 n.first c.put_key-p.ensures) refl c.requires.1

pub overflow_sub-depth : goal.overflow_sub-depth
overflow_sub-depth t c = (nested_turn _ _ _ _ _ (omega (arith, c.loop-test.true)) c.cell.ensures.0 c.if-cell-eq2.true c.cell-then-cell-eq2.ensures.0 c.loop.invariant.0).deep

pub put_map-inner-requires : goal.put_map-inner-requires
put_map-inner-requires t c =
    let l = c.loop.invariant in
    let n = nested_turn _ _ _ _ _ (omega (arith, c.loop-test.true)) c.cell.ensures.0 c.if-cell-eq2.true c.cell-then-cell-eq2.ensures.0 l.0 in
    (omega (arith, c.decreases, n.deep), (n.inner, left_room _ (left_step (left_step l.2 n.first c.put_key-p.ensures) refl c.put_u8-p.ensures) refl c.requires.1))

pub put_u8-p-requires-then-cell-eq2 : goal.put_u8-p-requires-then-cell-eq2
put_u8-p-requires-then-cell-eq2 t c =
    let l = c.loop.invariant in
    let n = nested_turn _ _ _ _ _ (omega (arith, c.loop-test.true)) c.cell.ensures.0 c.if-cell-eq2.true c.cell-then-cell-eq2.ensures.0 l.0 in
    left_room _ (left_step (left_step (left_step l.2 n.first c.put_key-p.ensures) refl c.put_u8-p.ensures) refl c.put_map-inner.ensures.0) refl c.requires.1

pub put_plain-p-requires : goal.put_plain-p-requires
put_plain-p-requires t c =
    let l = c.loop.invariant in
    let n = plain_turn _ _ _ _ _ (omega (arith, c.loop-test.true)) c.cell.ensures.0 c.if-cell-eq2.false l.0 in
    ((head_of _ _ _ _ _ (omega (arith, c.loop-test.true)) l.0).row, left_room _ (left_step l.2 n.first c.put_key-p.ensures) refl c.requires.1)

pub shape_of-out : goal.shape_of-out
shape_of-out t c = c.loop.invariant.2.same

pub cell-requires : goal.cell-requires
cell-requires t c = omega (arith, (row_of _ _ _ (head_of _ _ _ _ _ (omega (arith, c.loop-test.true)) c.loop.invariant.0).row).row)

pub overflow_add-k : goal.overflow_add-k
overflow_add-k t c = record { fits = omega (arith, c.well_formed, (row_of _ _ _ (head_of _ _ _ _ _ (omega (arith, c.loop-test.true)) c.loop.invariant.0).row).row) }

pub cell-requires-then-cell-eq2 : goal.cell-requires-then-cell-eq2
cell-requires-then-cell-eq2 t c = omega (arith, (row_of _ _ _ (head_of _ _ _ _ _ (omega (arith, c.loop-test.true)) c.loop.invariant.0).row).row)

pub overflow_add-k-else-cell-eq2 : goal.overflow_add-k-else-cell-eq2
overflow_add-k-else-cell-eq2 t c = record { fits = omega (arith, c.well_formed, (row_of _ _ _ (head_of _ _ _ _ _ (omega (arith, c.loop-test.true)) c.loop.invariant.0).row).row) }

pub loop-preserved : goal.loop-preserved
loop-preserved t c =
    let l = c.loop.invariant in
    let more : 0 < c.args.count - c.loop.counter = omega (arith, c.loop-test.true) in
    rw (one_less c.args.count c.loop.counter)
    (elim c.if-cell-eq2.branch [
      | then-cell-eq2 w ↦
          let n = nested_turn _ _ _ _ _ more c.cell.ensures.0 w.if-cell-eq2.true w.cell-then-cell-eq2.ensures.0 l.0 in
          rw (w.out-is, w.p-is, w.k-is)
          (nested_again n l.1 w.put_map-inner.ensures.1 (left_step (left_step (left_step (left_step l.2 n.first c.put_key-p.ensures) refl w.put_u8-p.ensures) refl w.put_map-inner.ensures.0) refl w.put_u8-p-then-cell-eq2.ensures))
      | else-cell-eq2 w ↦
          let n = plain_turn _ _ _ _ _ more c.cell.ensures.0 w.if-cell-eq2.false l.0 in
          rw (w.out-is, w.p-is, w.k-is) (n.ok, n.last ∙ l.1, left_step (left_step l.2 n.first c.put_key-p.ensures) refl w.put_plain-p.ensures)
    ])

pub returns : goal.returns
returns t c = let l = c.loop.invariant in let n = no_more _ _ _ _ _ (omega (arith, c.loop-test.false)) in (left_done l.2 n.0, sym n.1 ∙ l.1)

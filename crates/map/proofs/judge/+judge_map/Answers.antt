use mathlib.Core.Path.{refl}
use Prim.Native.Nat.{◌-◌, ◌<◌}
use native.Mathlib.Nat.{sub-zero}
use native.Mathlib.Omega.{arith}
use Rattle.map.proofs.Laws.{one_less}
use Rattle.map.proofs.Judging.{judging_start, judging_out, judging_plain, judging_deep, judging_nested, judging_done}
use Rattle.map.proofs.judge.+judge_map.Goals.{then-cell-eq2+then-depth-eq0, then-cell-eq2+else-depth-eq0, else-cell-eq2}
use Rattle.map.proofs.judge.+judge_map.Goals as goal

pub loop-init : goal.loop-init
loop-init t c = rw (sub-zero c.args.count) (judging_start _ _ _ _ _)

pub returns-then-rows-k : goal.returns-then-rows-k
returns-then-rows-k t c = judging_out c.loop.invariant (omega (arith, c.loop-test.true)) c.if-rows-k.true c.lower.ensures

pub loop-preserved : goal.loop-preserved
loop-preserved t c =
    let more : 0 < c.args.count - c.loop.counter = omega (arith, c.loop-test.true) in
    rw (one_less c.args.count c.loop.counter)
    (elim c.if-cell-eq2.branch [
      | then-cell-eq2+then-depth-eq0 w ↦
          rw (w.k-is, w.bytes-is, w.wrong-is)
          (judging_deep c.loop.invariant more c.if-rows-k.false c.cell.ensures.0 c.cell-in-loop.ensures.0 refl c.with_row-wrong.ensures
          w.if-cell-eq2.true w.if-depth-eq0.true w.lower-wrong.ensures)
      | then-cell-eq2+else-depth-eq0 w ↦
          rw (w.k-is, w.bytes-is, w.wrong-is)
          (judging_nested c.loop.invariant more c.if-rows-k.false c.cell.ensures.0 c.cell-in-loop.ensures.0 refl c.with_row-wrong.ensures w.if-cell-eq2.true
          w.if-depth-eq0.false w.cell-else-depth-eq0.ensures.0 w.judge_map-inner.ensures.0 w.judge_map-inner.ensures.1 w.judge_map-inner.ensures.2
          w.lower-wrong-else-depth-eq0.ensures w.capped-bytes.ensures.0 w.capped-bytes.ensures.1)
      | else-cell-eq2 w ↦
          rw (w.k-is, w.bytes-is, w.wrong-is)
          (judging_plain c.loop.invariant more c.if-rows-k.false c.cell.ensures.0 c.cell-in-loop.ensures.0 refl c.with_row-wrong.ensures
          w.if-cell-eq2.false w.plain_size.ensures.1 w.capped-bytes-else-cell-eq2.ensures.0 w.capped-bytes-else-cell-eq2.ensures.1)
    ])

pub returns : goal.returns
returns t c = judging_done c.loop.invariant (omega (arith, c.loop-test.false))

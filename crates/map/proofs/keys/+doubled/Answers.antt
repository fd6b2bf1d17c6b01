use Prim.Native.Nat.{◌-◌, ◌<◌}
use native.Mathlib.Nat.{sub-zero}
use native.Mathlib.Omega.{arith}
use Rattle.map.proofs.Laws.{one_less}
use Rattle.map.proofs.KeyLaws.{doubling_start, doubling_out, doubling_here, doubling_plain, doubling_deep, doubling_nested, doubling_inside, doubling_done}
use Rattle.map.proofs.keys.+doubled.Goals.{then-cell-eq2+then-depth-gt0+else-doubled, then-cell-eq2+else-depth-gt0, else-cell-eq2}
use Rattle.map.proofs.keys.+doubled.Goals as goal

pub loop-init : goal.loop-init
loop-init t c = rw (sub-zero c.args.count) (doubling_start _ _ _ _ _)

pub returns-then-rows-k : goal.returns-then-rows-k
returns-then-rows-k t c = doubling_out c.loop.invariant c.if-rows-k.true

pub returns-then-repeats : goal.returns-then-repeats
returns-then-repeats t c = doubling_here c.loop.invariant (omega (arith, c.loop-test.true)) c.if-rows-k.false c.repeats.ensures c.if-repeats.true

pub returns-then-doubled : goal.returns-then-doubled
returns-then-doubled t c =
    doubling_inside c.loop.invariant (omega (arith, c.loop-test.true)) c.if-rows-k.false c.repeats.ensures
    c.if-repeats.false c.cell.ensures.0 c.if-cell-eq2.true c.if-depth-gt0.true
    c.cell-then-depth-gt0.ensures.0 c.doubled.ensures c.if-doubled.true

pub loop-preserved : goal.loop-preserved
loop-preserved t c =
    let more : 0 < c.args.count - c.loop.counter = omega (arith, c.loop-test.true) in
    let moved = c.skip_rows-k.ensures.2 (omega arith) (omega (arith, c.if-rows-k.false)) in
    rw (one_less c.args.count c.loop.counter)
    (elim c.if-cell-eq2.branch [
      | then-cell-eq2+then-depth-gt0+else-doubled w ↦
          doubling_nested c.loop.invariant more c.if-rows-k.false c.repeats.ensures c.if-repeats.false c.skip_rows-k.ensures.0 moved w.if-depth-gt0.true
          w.cell-then-depth-gt0.ensures.0 w.doubled.ensures w.if-doubled.false
      | then-cell-eq2+else-depth-gt0 w ↦ doubling_deep c.loop.invariant more c.if-rows-k.false c.repeats.ensures c.if-repeats.false c.skip_rows-k.ensures.0 moved w.if-depth-gt0.false
      | else-cell-eq2 w ↦ doubling_plain c.loop.invariant more c.if-rows-k.false c.repeats.ensures c.if-repeats.false c.skip_rows-k.ensures.0 moved c.cell.ensures.0 w.if-cell-eq2.false
    ])

pub returns : goal.returns
returns t c = doubling_done c.loop.invariant (omega (arith, c.loop-test.false))

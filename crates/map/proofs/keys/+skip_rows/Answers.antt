use Rattle.map.proofs.KeyLaws.{skipping_start, skipping_out, skipping_plain, skipping_deep, skipping_nested, skipping_done}
use Rattle.map.proofs.keys.+skip_rows.Goals as goal

pub loop-init : goal.loop-init
loop-init t c = skipping_start _ _ _ _

pub returns-then-rows-k : goal.returns-then-rows-k
returns-then-rows-k t c = skipping_out c.loop.invariant c.loop-test.true c.if-rows-k.true

pub loop-preserved-then-cell-ne2 : goal.loop-preserved-then-cell-ne2
loop-preserved-then-cell-ne2 t c = skipping_plain c.loop.invariant c.loop-test.true c.if-rows-k.false c.cell.ensures.0 c.if-cell-ne2.true

pub loop-preserved-then-depth-eq0 : goal.loop-preserved-then-depth-eq0
loop-preserved-then-depth-eq0 t c = skipping_deep c.loop.invariant c.loop-test.true c.if-rows-k.false c.cell.ensures.0 c.if-cell-ne2.false c.if-depth-eq0.true

pub loop-preserved : goal.loop-preserved
loop-preserved t c =
    skipping_nested c.loop.invariant c.loop-test.true c.if-rows-k.false c.cell.ensures.0 c.if-cell-ne2.false c.if-depth-eq0.false
    c.cell-else-depth-eq0.ensures.0 c.skip_rows-k.ensures.0 c.skip_rows-k.ensures.1

pub returns : goal.returns
returns t c = skipping_done c.loop.invariant c.loop-test.false

use native.Mathlib.Omega.{arith}
use Rattle.map.proofs.Judging.{text_size, number_size}
use Rattle.map.proofs.judge.plain_size.Goals as goal

pub returns-then-cell-eq0 : goal.returns-then-cell-eq0
returns-then-cell-eq0 c = (omega (arith, c.cell-then-cell-eq0.ensures.1), text_size _ _ c.requires c.cell.ensures.0 c.if-cell-eq0.true c.cell-then-cell-eq0.ensures.0)

pub returns : goal.returns
returns c = (omega arith, number_size _ _ c.cell.ensures.0 c.if-cell-eq0.false)

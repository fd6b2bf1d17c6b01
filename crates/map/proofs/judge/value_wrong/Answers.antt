use Rattle.map.proofs.Judging.{wrong_text, wrong_none, wrong_kind}
use Rattle.map.proofs.judge.value_wrong.Goals as goal

pub returns-then-kind-eq0 : goal.returns-then-kind-eq0
returns-then-kind-eq0 c = wrong_text _ _ _ c.cell-kind.ensures.0 c.if-kind-eq0.true c.cell.ensures.0 c.cell-then-kind-eq0.ensures.0 c.text_wrong.ensures

pub returns-then-kind-le2 : goal.returns-then-kind-le2
returns-then-kind-le2 c = wrong_none _ _ _ c.cell-kind.ensures.0 c.if-kind-eq0.false c.if-kind-le2.true

pub returns : goal.returns
returns c = wrong_kind _ _ _ c.cell-kind.ensures.0 c.if-kind-eq0.false c.if-kind-le2.false

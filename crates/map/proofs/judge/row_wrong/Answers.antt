use mathlib.Core.Path.{sym, ap, ◌∙◌}
use Rattle.map.specs.Inner.{number_if}
use Rattle.map.proofs.Laws.{lower_first}
use Rattle.map.proofs.Judging.{row_as}
use Rattle.map.proofs.judge.row_wrong.Goals as goal

pub returns-in_default : goal.returns-in_default
returns-in_default c = row_as _ _ _ c.cell.ensures.0 c.cell-2.ensures.0 c.text_wrong.ensures c.value_wrong-value.ensures (lower_first _ c.in_default.is)

pub returns : goal.returns
returns c = row_as _ _ _ c.cell.ensures.0 c.cell-2.ensures.0 (sym (ap number_if c.in-Some.is) ∙ c.text_wrong.ensures) c.value_wrong-value.ensures c.lower.ensures

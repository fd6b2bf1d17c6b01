use mathlib.Core.Path.{sym, ap, ◌∙◌}
use Rattle.map.specs.Rows.{worse}
use Rattle.map.specs.Inner.{number_if}
use Rattle.map.proofs.Laws.{lower_none}
use Rattle.map.proofs.judge.with_row.Goals as goal

pub returns-in_default : goal.returns-in_default
returns-in_default c = lower_none c.args.wrong c.in_default.is ∙ ap (worse (number_if c.args.wrong)) c.row_wrong.ensures

pub returns : goal.returns
returns c = c.lower.ensures ∙ ap (worse (number_if c.args.wrong)) (sym (ap number_if c.in-Some.is) ∙ c.row_wrong.ensures)

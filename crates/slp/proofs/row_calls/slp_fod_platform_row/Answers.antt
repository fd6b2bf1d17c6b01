use mathlib.Core.Path.{ap, ◌∙◌}
use Rattle.game.specs.Stores.{Lent}
use Rattle.transpose.specs.Answers.{fod_platform_row}
use Rattle.slp.proofs.row_calls.slp_fod_platform_row.Goals as goal

pub returns : goal.returns
returns c = c.fod_platform_row.ensures ∙ ap (λ (l : Lent). fod_platform_row c.args.f l c.args.index) c.lent_of-lent.ensures

use mathlib.Core.Path.{ap, ◌∙◌}
use Rattle.game.specs.Stores.{Lent}
use Rattle.transpose.specs.Answers.{pre_row}
use Rattle.slp.proofs.row_calls.slp_pre_row.Goals as goal

pub returns : goal.returns
returns c = c.pre_row.ensures ∙ ap (λ (l : Lent). pre_row c.args.f l c.args.slot c.args.index) c.lent_of-lent.ensures

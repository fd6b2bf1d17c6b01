use mathlib.Core.Path.{ap, ◌∙◌}
use Rattle.game.specs.Stores.{Lent}
use Rattle.transpose.specs.Answers.{post_row}
use Rattle.slp.proofs.row_calls.slp_post_row.Goals as goal

pub returns : goal.returns
returns c = c.post_row.ensures ∙ ap (λ (l : Lent). post_row c.args.f l c.args.slot c.args.index) c.lent_of-lent.ensures

use mathlib.Core.Path.{ap, ◌∙◌}
use Rattle.game.specs.Stores.{Lent}
use Rattle.transpose.specs.Answers.{stadium_transformation_row}
use Rattle.slp.proofs.row_calls.slp_stadium_transformation_row.Goals as goal

pub returns : goal.returns
returns c = c.stadium_transformation_row.ensures ∙ ap (λ (l : Lent). stadium_transformation_row c.args.f l c.args.index) c.lent_of-lent.ensures

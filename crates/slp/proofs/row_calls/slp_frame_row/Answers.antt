use mathlib.Core.Path.{ap, ◌∙◌}
use Rattle.game.specs.Stores.{Lent}
use Rattle.transpose.specs.Answers.{frame_row}
use Rattle.slp.proofs.row_calls.slp_frame_row.Goals as goal

pub returns : goal.returns
returns c = c.frame_row.ensures ∙ ap (λ (l : Lent). frame_row c.args.f l c.args.index) c.lent_of-lent.ensures

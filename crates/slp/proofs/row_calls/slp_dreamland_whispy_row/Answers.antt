use mathlib.Core.Path.{ap, ◌∙◌}
use Rattle.game.specs.Stores.{Lent}
use Rattle.transpose.specs.Answers.{dreamland_whispy_row}
use Rattle.slp.proofs.row_calls.slp_dreamland_whispy_row.Goals as goal

pub returns : goal.returns
returns c = c.dreamland_whispy_row.ensures ∙ ap (λ (l : Lent). dreamland_whispy_row c.args.f l c.args.index) c.lent_of-lent.ensures

use mathlib.Core.Path.{ap, ◌∙◌}
use Rattle.game.specs.Stores.{Lent}
use Rattle.transpose.specs.Answers.{item_row}
use Rattle.slp.proofs.row_calls.slp_item_row.Goals as goal

pub returns : goal.returns
returns c = c.item_row.ensures ∙ ap (λ (l : Lent). item_row c.args.f l c.args.index) c.lent_of-lent.ensures

use mathlib.Core.Path.{◌∙◌}
use Rattle.rows.specs.Rows.{item_of}
use Rattle.transpose.proofs.Shown.{row_shown}
use Rattle.transpose.proofs.fetch.item_at.Goals as goal

pub returns : goal.returns
returns c = c.item_of.ensures ∙ row_shown item_of _ _ _ c.record_at.ensures.is c.version_shown.ensures

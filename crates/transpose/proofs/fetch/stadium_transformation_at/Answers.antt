use mathlib.Core.Path.{◌∙◌}
use Rattle.rows.specs.Rows.{stadium_transformation_of}
use Rattle.transpose.proofs.Shown.{row_shown}
use Rattle.transpose.proofs.fetch.stadium_transformation_at.Goals as goal

pub returns : goal.returns
returns c = c.stadium_transformation_of.ensures ∙ row_shown stadium_transformation_of _ _ _ c.record_at.ensures.is c.version_shown.ensures

use mathlib.Core.Path.{◌∙◌}
use Rattle.rows.specs.Rows.{frame_start_of}
use Rattle.transpose.proofs.Shown.{row_shown}
use Rattle.transpose.proofs.fetch.frame_start_at.Goals as goal

pub returns : goal.returns
returns c = c.frame_start_of.ensures ∙ row_shown frame_start_of _ _ _ c.record_at.ensures.is c.version_shown.ensures

use mathlib.Core.Path.{◌∙◌}
use Rattle.rows.specs.Rows.{fod_platform_of}
use Rattle.transpose.proofs.Shown.{row_shown}
use Rattle.transpose.proofs.fetch.fod_platform_at.Goals as goal

pub returns : goal.returns
returns c = c.fod_platform_of.ensures ∙ row_shown fod_platform_of _ _ _ c.record_at.ensures.is c.version_shown.ensures

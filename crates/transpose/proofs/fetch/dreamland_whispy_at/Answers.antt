use mathlib.Core.Path.{◌∙◌}
use Rattle.rows.specs.Rows.{dreamland_whispy_of}
use Rattle.transpose.proofs.Shown.{row_shown}
use Rattle.transpose.proofs.fetch.dreamland_whispy_at.Goals as goal

pub returns : goal.returns
returns c = c.dreamland_whispy_of.ensures ∙ row_shown dreamland_whispy_of _ _ _ c.record_at.ensures.is c.version_shown.ensures

use mathlib.Core.Path.{◌∙◌}
use Rattle.rows.specs.Rows.{post_of}
use Rattle.transpose.proofs.Shown.{row_shown}
use Rattle.transpose.proofs.fetch.post_at.Goals as goal

pub returns : goal.returns
returns c = c.post_of.ensures ∙ row_shown (λ raw v. post_of raw v c.args.mark) _ _ _ c.record_at.ensures.is c.version_shown.ensures

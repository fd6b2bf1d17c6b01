use mathlib.Core.Path.{◌∙◌}
use Rattle.transpose.proofs.Shown.{shown_row, shown_none}
use Rattle.transpose.proofs.fetch.version_shown.Goals as goal

pub returns-then-shown : goal.returns-then-shown
returns-then-shown c = shown_row _ _ _ c.if-shown.true

pub returns : goal.returns
returns c = c.new.ensures ∙ shown_none _ _ _ c.if-shown.false

use mathlib.Core.Path.{◌∙◌}
use Rattle.transpose.proofs.Shown.{shown_row, shown_none}
use Rattle.transpose.proofs.frame.range_shown.Goals as goal

pub range_at-requires : goal.range_at-requires
range_at-requires c = c.requires c.if-shown.true

pub returns-then-shown : goal.returns-then-shown
returns-then-shown c = c.range_at.ensures ∙ shown_row _ _ _ c.if-shown.true

pub returns : goal.returns
returns c = c.no_range.ensures ∙ shown_none _ _ _ c.if-shown.false

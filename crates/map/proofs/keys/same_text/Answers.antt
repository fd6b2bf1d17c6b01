use mathlib.Core.Path.{◌∙◌}
use Rattle.map.proofs.KeyLaws.{parts_same}
use Rattle.map.proofs.keys.same_text.Goals as goal

pub returns : goal.returns
returns c = c.eq.ensures ∙ parts_same _ _ _ _ _

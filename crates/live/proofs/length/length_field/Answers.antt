use mathlib.Core.Path.{◌∙◌}
use Rattle.wire.proofs.Laws.{be_is}
use Rattle.live.proofs.Laws.{field_over, field_fits}
use Rattle.live.proofs.length.length_field.Goals as goal

pub returns-then-n-gt4294967295 : goal.returns-then-n-gt4294967295
returns-then-n-gt4294967295 c = field_over _ c.if-n-gt4294967295.true

pub returns : goal.returns
returns c = let p = field_fits _ c.if-n-gt4294967295.false in (p.0, c.to_be_bytes.ensures ∙ be_is _ ∙ p.1)

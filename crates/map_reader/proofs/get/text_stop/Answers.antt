use native.Mathlib.Omega.{arith}
use Rattle.map_reader.proofs.Steps.{text_yes, text_cut, text_no}
use mathlib.Core.Path.{◌∙◌}
use Rattle.map_reader.proofs.get.text_stop.Goals as goal

pub returns-then-stop-b : goal.returns-then-stop-b
returns-then-stop-b c = (text_yes _ _ c.byte_at.ensures.0 (c.wide.ensures.0 ∙ c.byte_at-then-byte_at-eq85.ensures.0) c.if-byte_at-eq85.true c.if-stop-b.true, λ z. (omega arith, c.if-stop-b.true))

pub returns-else-stop-b : goal.returns-else-stop-b
returns-else-stop-b c = (text_cut _ _ c.byte_at.ensures.0 (c.wide.ensures.0 ∙ c.byte_at-then-byte_at-eq85.ensures.0) c.if-stop-b.false, λ z. absurd (omega arith))

pub returns-else-byte_at-eq85 : goal.returns-else-byte_at-eq85
returns-else-byte_at-eq85 c = (text_no _ _ c.byte_at.ensures.0 c.if-byte_at-eq85.false, λ z. absurd (omega arith))

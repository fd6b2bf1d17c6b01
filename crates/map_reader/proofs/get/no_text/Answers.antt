use Rattle.map_reader.proofs.Steps.{text_short, text_other}
use Rattle.map_reader.proofs.get.no_text.Goals as goal

pub returns-then-byte_at-eq85 : goal.returns-then-byte_at-eq85
returns-then-byte_at-eq85 c = text_short _ _ c.byte_at.ensures.0 c.if-byte_at-eq85.true

pub returns : goal.returns
returns c = (text_other _ _ c.byte_at.ensures.0 c.if-byte_at-eq85.false c.other_wrong.ensures.0, c.other_wrong.ensures.1)

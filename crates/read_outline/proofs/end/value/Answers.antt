use Rattle.read_outline.proofs.Laws.{value_none, value_some}
use Rattle.read_outline.proofs.end.value.Goals as goal

pub returns-then-b-eq255 : goal.returns-then-b-eq255
returns-then-b-eq255 c = value_none _ c.if-b-eq255.true

pub returns : goal.returns
returns c = value_some _ c.if-b-eq255.false

use Rattle.read_outline.proofs.Laws.{mark_none, mark_some}
use Rattle.read_outline.proofs.end.mark.Goals as goal

pub returns-then-b-eq255 : goal.returns-then-b-eq255
returns-then-b-eq255 c = mark_none _ c.if-b-eq255.true

pub returns : goal.returns
returns c = mark_some _ c.if-b-eq255.false

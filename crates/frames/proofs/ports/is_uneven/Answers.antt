use Rattle.frames.proofs.PortLaws.{even_none, uneven_some}
use Rattle.frames.proofs.ports.is_uneven.Goals as goal

pub returns-then-len-eq0 : goal.returns-then-len-eq0
returns-then-len-eq0 c = even_none _ _ c.if-len-eq0.true

pub returns : goal.returns
returns c = uneven_some _ _ c.if-len-eq0.false

use Rattle.head.proofs.Heads.{by_size, by_none}
use Rattle.head.proofs.table.first_place.Goals as goal

pub returns-then-file-lt17 : goal.returns-then-file-lt17
returns-then-file-lt17 c = by_none _ c.if-file-lt17.true

pub returns : goal.returns
returns c = by_size _ _ c.wide.ensures.0

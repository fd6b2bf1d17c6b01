use Rattle.map_reader.proofs.Steps.{other_long, other_bad}
use Rattle.map_reader.proofs.get.other_wrong.Goals as goal

pub returns-then-says_more : goal.returns-then-says_more
returns-then-says_more c = other_long _ _ c.says_more.ensures c.if-says_more.true

pub returns : goal.returns
returns c = other_bad _ _ c.says_more.ensures c.if-says_more.false

-- `live::finish::end_len` meets its contract: the parts, added up.
use Rattle.live.proofs.Laws.{end_adds}
use Rattle.live.proofs.finish.end_len.Goals as goal

pub returns : goal.returns
returns c = end_adds _ _ _ _ _ _ _ _ c.is_given.ensures c.ends_len-ends.ensures.0 c.tail_len.ensures.0

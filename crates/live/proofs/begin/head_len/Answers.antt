-- `live::begin::head_len` meets its contract: the parts, added up.
use Rattle.live.proofs.Laws.{head_adds}
use Rattle.live.proofs.begin.head_len.Goals as goal

pub returns : goal.returns
returns c = head_adds _ _ _ _ _ _ _ c.is_given-given.ensures c.table_len-table.ensures.0 c.codes_len-codes.ensures.0

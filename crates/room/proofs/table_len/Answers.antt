use Rattle.room.proofs.Laws.{table_is_lem}
use Rattle.room.proofs.table_len.Goals as goal

pub returns : goal.returns
returns c = table_is_lem _ _ c.payload_sizes-t.ensures.count c.payload_sizes-t.ensures.few

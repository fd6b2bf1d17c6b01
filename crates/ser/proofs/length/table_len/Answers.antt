use borrow.Author.Rules.{rules}
use Rattle.ser.proofs.Sums.{table_is_lem}
use Rattle.ser.proofs.length.table_len.Goals as goal

pub returns : goal.returns
returns c = table_is_lem _ _ c.payload_sizes-t.ensures.count c.payload_sizes-t.ensures.few

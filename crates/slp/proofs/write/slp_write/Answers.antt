use Rattle.slp.proofs.Laws.{write_outcome}
use Rattle.slp.proofs.write.slp_write.Goals as goal

pub returns : goal.returns
returns c = write_outcome (rw c.stores_of-stores.ensures at c.write.ensures) c.by_number.ensures c.written_numbers.ensures

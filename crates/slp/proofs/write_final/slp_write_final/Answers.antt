use Rattle.slp.proofs.Finals.{final_outcome}
use Rattle.slp.proofs.write_final.slp_write_final.Goals as goal

pub returns : goal.returns
returns c = final_outcome (rw c.stores_of-stores.ensures at c.write_final.ensures) c.by_number.ensures c.written_numbers.ensures

use Rattle.slp.proofs.Laws.{append_outcome}
use Rattle.slp.proofs.write_frames.slp_write_frames.Goals as goal

pub returns : goal.returns
returns c = append_outcome (rw c.lent_of-lent.ensures at c.write_frames.ensures) c.by_number.ensures c.appended_numbers.ensures

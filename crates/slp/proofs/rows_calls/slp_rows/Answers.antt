use Rattle.slp.proofs.rows_calls.slp_rows.Goals as goal

pub returns : goal.returns
returns c = rw c.lent_of-lent.ensures at c.rows_of_run.ensures

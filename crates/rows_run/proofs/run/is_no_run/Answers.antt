use Rattle.rows_run.proofs.Judged.{no_run_as}
use Rattle.rows_run.proofs.run.is_no_run.Goals as goal

pub returns : goal.returns
returns c = no_run_as _ _ _ _ _ c.family_of-family.ensures c.blocks-2.ensures.0 c.rows.ensures

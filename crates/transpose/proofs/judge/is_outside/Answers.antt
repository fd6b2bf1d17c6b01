use Rattle.transpose.specs.Judge.{outside}
use Rattle.transpose.proofs.judge.is_outside.Goals as goal

pub returns : goal.returns
unfolding outside
returns c = rw (c.blocks-2.ensures.0, c.rows.ensures)

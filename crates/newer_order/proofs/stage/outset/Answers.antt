use Rattle.newer_order.proofs.Laws.{outset_is}
use Rattle.newer_order.proofs.stage.outset.Goals as goal

pub returns : goal.returns
returns c = outset_is

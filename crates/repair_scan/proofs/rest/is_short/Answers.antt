use Rattle.repair_scan.proofs.Laws.{short_is}
use Rattle.repair_scan.proofs.rest.is_short.Goals as goal

pub returns : goal.returns
returns c = short_is _

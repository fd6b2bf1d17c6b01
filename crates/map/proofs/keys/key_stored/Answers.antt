use Rattle.map.proofs.KeyLaws.{stored_as}
use Rattle.map.proofs.keys.key_stored.Goals as goal

pub returns : goal.returns
returns c = stored_as _ _ _ c.cell.ensures.0 c.cell-2.ensures.0

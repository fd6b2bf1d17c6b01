use Rattle.read_event.proofs.Leaves.{open_room}
use Rattle.read_places.proofs.Scans.{open_is, open_few}
use Rattle.read_places.proofs.scan.open_at.Goals as goal

pub opened-requires : goal.opened-requires
opened-requires c = λ e. open_room _ _ _ _ _ _ c.is_first-on.ensures e

pub returns : goal.returns
returns c = (open_is _ _ _ _ _ _ _ _ c.get_be-id.ensures c.is_first-on.ensures c.opened.ensures, open_few _ _ _ _ _ _ _ _ c.is_first-on.ensures c.opened.ensures c.requires.1)

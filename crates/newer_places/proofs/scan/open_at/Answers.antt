use Rattle.read_event.proofs.Leaves.{open_room}
use Rattle.read_places.proofs.Scans.{open_is, open_few}
use borrow.Author.Rules.{rules}
use Rattle.newer_places.proofs.scan.open_at.Reads as reads
use Rattle.newer_places.proofs.scan.open_at.Lts as lts
use Rattle.read_event.proofs.marks.is_first.Reads as is-first-reads
use Rattle.read_event.proofs.marks.opened.Reads as opened-reads
use Rattle.wire.proofs.get_be.Reads as get-be-reads
use Rattle.newer_places.proofs.scan.open_at.Goals as goal

pub opened-requires : goal.opened-requires
opened-requires c = λ e. open_room _ _ _ _ _ _ c.is_first-on.ensures e

pub returns : goal.returns
returns c = (open_is _ _ _ _ _ _ _ _ c.get_be-id.ensures c.is_first-on.ensures c.opened.ensures, open_few _ _ _ _ _ _ _ _ c.is_first-on.ensures c.opened.ensures c.requires.1)

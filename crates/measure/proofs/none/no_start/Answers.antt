use borrow.Author.Rules.{rules}
use Rattle.measure.proofs.none.no_start.Goals as goal

pub returns : goal.returns
returns c = rw c.no_seat-seat.ensures

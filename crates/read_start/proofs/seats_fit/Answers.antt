use borrow.Author.Rules.{rules}
use Rattle.read_start.specs.Start.{seats_fit}
use Rattle.read_start.proofs.Parts.{part_same}
use Rattle.read_start.proofs.seats_fit.Goals as goal

pub returns : goal.returns
returns c = let a = c.args in part_same seats_fit a.file.now a.at a.len c.types_fit.ensures

use borrow.Author.Rules.{rules}
use Rattle.measure.specs.Inner.{offsets_by}
use Rattle.measure.proofs.lengths.offsets.Goals as goal

pub returns-then-exists : goal.returns-then-exists
unfolding offsets_by
returns-then-exists c = rw (← c.exists.ensures, c.if-exists.true)

pub returns : goal.returns
unfolding offsets_by
returns c = rw (← c.exists.ensures, c.if-exists.false)

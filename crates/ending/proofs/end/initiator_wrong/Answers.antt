use borrow.Author.Tests.{le-leb, lt-leb}
use Rattle.ending.specs.End.{initiator_wrong}
use Rattle.ending.proofs.end.initiator_wrong.Goals as goal

pub returns-then-initiator-le3 : goal.returns-then-initiator-le3
unfolding initiator_wrong
returns-then-initiator-le3 c = rw (le-leb _ _ c.if-initiator-le3.true)

pub returns : goal.returns
unfolding initiator_wrong
returns c = rw (lt-leb _ _ c.if-initiator-le3.false)

use borrow.Author.Rules.{rules}
use Rattle.measure.proofs.Tails.{bare_as, bare_long}
use Rattle.measure.proofs.tail.is_bare.Goals as goal

pub returns-then-tail-eq1 : goal.returns-then-tail-eq1
returns-then-tail-eq1 c = bare_as _ c.if-tail-eq1.true

pub returns : goal.returns
returns c = bare_long _ c.if-tail-eq1.false

use Rattle.places.proofs.Laws.{never}
use Rattle.events.proofs.middle.is_plain.Goals as goal

pub returns : goal.returns
returns c =
    λ e. (c.is_lacking-2.ensures c.if-is_lacking-2.true, c.is_lacking-3.ensures c.if-is_lacking-3.true, c.is_lacking-4.ensures e, c.is_lacking.ensures c.if-is_lacking.true)

pub returns-else-is_lacking : goal.returns-else-is_lacking
returns-else-is_lacking c = λ e. never e

pub returns-else-is_lacking-2 : goal.returns-else-is_lacking-2
returns-else-is_lacking-2 c = λ e. never e

pub returns-else-is_lacking-3 : goal.returns-else-is_lacking-3
returns-else-is_lacking-3 c = λ e. never e

use borrow.Author.Rules.{rules}
use Rattle.index_calls.proofs.Laws.{judged_walk, counts, judged_later}
use Rattle.index_calls.proofs.judge.Goals as goal

pub returns-then-s-ne0 : goal.returns-then-s-ne0
returns-then-s-ne0 c = judged_walk c.requires c.scan-s.result c.scan-s.ensures c.if-s-ne0.true

pub later-refused-requires : goal.later-refused-requires
later-refused-requires c = (c.requires, counts c.requires c.scan-s.result c.scan-s.ensures c.if-s-ne0.false)

pub returns : goal.returns
returns c = let s = c.scan-s in judged_later c.requires s.result s.ensures c.if-s-ne0.false c.later-refused.result c.later-refused.ensures

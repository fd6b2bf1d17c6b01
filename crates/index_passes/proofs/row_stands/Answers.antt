use borrow.Author.Rules.{rules}
use Rattle.index_passes.proofs.Laws.{row_yes, row_no}
use Rattle.index_passes.proofs.row_stands.Goals as goal

pub returns-then-stands_at : goal.returns-then-stands_at
returns-then-stands_at c = let a = c.stands_at in let g = c.args in row_yes g.index.now g.at g.id g.place a.result c.stands_at-then-stands_at.result a.ensures c.if-stands_at.true c.stands_at-then-stands_at.ensures

pub returns : goal.returns
returns c = let g = c.args in row_no g.index.now g.at g.id g.place c.stands_at.result c.stands_at.ensures c.if-stands_at.false

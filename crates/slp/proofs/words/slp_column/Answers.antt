use borrow.Author.Rules.{rules}
use Rattle.slp.proofs.Laws.{no_column_lem, some_column}
use Rattle.slp.proofs.words.slp_column.Goals as goal

pub returns-then-family-gt7 : goal.returns-then-family-gt7
returns-then-family-gt7 c = no_column_lem c.args.family c.args.n c.if-family-gt7.true c.no_column.ensures

pub returns : goal.returns
returns c =
    some_column c.args.family c.args.n c.if-family-gt7.false c.family_of.ensures c.column.ensures

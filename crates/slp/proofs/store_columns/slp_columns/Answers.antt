use native.Mathlib.Omega.{arith}
use borrow.Author.Rules.{rules}
use Rattle.slp.proofs.Laws.{no_columns, some_columns}
use Rattle.slp.proofs.store_columns.slp_columns.Goals as goal

pub returns-then-family-gt7 : goal.returns-then-family-gt7
returns-then-family-gt7 c = no_columns c.args.version c.args.family c.if-family-gt7.true

pub returns : goal.returns
returns c =
    some_columns c.args.version c.args.family c.columns.result c.family_of.result c.if-family-gt7.false c.family_of.ensures c.columns.ensures.0

use mathlib.Core.Path.{◌∙◌}
use lib.Dec.{lit<}
use borrow.Author.Rules.{rules}
use Rattle.case_table.specs.Table.{cases}
use Rattle.case_table.proofs.Computed.{case_holds}
use Rattle.case_calls.proofs.run.case_8.Goals as goal

pub returns : goal.returns
unfolding cases
returns c = c.write_coded.ensures.numbers_are ∙ case_holds 8 (lit< tt)

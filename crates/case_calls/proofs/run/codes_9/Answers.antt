use lib.Dec.{lit<}
use borrow.Author.Rules.{rules}
use Rattle.case_table.specs.Table.{cases}
use Rattle.case_table.proofs.Computed.{case_holds}
use Rattle.case_calls.proofs.RowLaws.{whole_file}
use Rattle.case_calls.proofs.BlockLaws.{codes_of_9}
use Rattle.case_calls.proofs.run.codes_9.Goals as goal

pub returns : goal.returns
unfolding cases
returns c =
    let written = whole_file 67156 c.write_coded.ensures (case_holds 10 (lit< tt)) in
    codes_of_9 _ _ _ _ written c.get_be.ensures c.count_code.ensures c.code.ensures

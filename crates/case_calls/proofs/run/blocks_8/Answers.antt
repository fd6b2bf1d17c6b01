use lib.Dec.{lit<}
use borrow.Author.Rules.{rules}
use Rattle.case_table.specs.Table.{cases}
use Rattle.case_table.proofs.Computed.{case_holds}
use Rattle.case_calls.proofs.RowLaws.{whole_file}
use Rattle.case_calls.proofs.BlockLaws.{blocks_of_8}
use Rattle.case_calls.proofs.run.blocks_8.Goals as goal

pub returns : goal.returns
unfolding cases
returns c =
    let written = whole_file 1497 c.write_coded.ensures (case_holds 8 (lit< tt)) in
    blocks_of_8 _ _ _ written c.block_length.ensures c.block_flag.ensures

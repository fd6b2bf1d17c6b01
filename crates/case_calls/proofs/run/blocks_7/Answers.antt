use lib.Dec.{lit<}
use borrow.Author.Rules.{rules}
use Rattle.case_table.specs.Table.{cases}
use Rattle.case_table.proofs.Computed.{case_holds}
use Rattle.case_calls.proofs.RowLaws.{whole_file}
use Rattle.case_calls.proofs.BlockLaws.{blocks_of_7}
use Rattle.case_calls.proofs.run.blocks_7.Goals as goal

pub returns : goal.returns
unfolding cases
returns c =
    let written = whole_file 2014 c.write_coded.ensures (case_holds 6 (lit< tt)) in
    blocks_of_7 _ _ _ _ _ written c.block_length.ensures c.block_length-2.ensures c.block_flag.ensures c.block_flag-2.ensures

use native.Mathlib.Omega.{arith}
use borrow.Author.Rules.{rules}
use Rattle.case_calls.proofs.RowLaws.{head_there, file_row, refusal_row}
use Rattle.case_calls.proofs.row.write_row.Goals as goal

pub get_be-requires : goal.get_be-requires
get_be-requires c =
    let w = c.write-w in
    (omega arith, head_there _ _ w.ensures c.in-Ok.is w.auto.out)

pub returns-in-Ok : goal.returns-in-Ok
returns-in-Ok c =
    let w = c.write-w in
    file_row _ _ _ w.ensures c.in-Ok.is c.get_be.ensures

pub returns-in-Err : goal.returns-in-Err
returns-in-Err c = refusal_row _ _ _ c.write-w.ensures c.in-Err.is c.number.ensures

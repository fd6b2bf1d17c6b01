use borrow.Author.Rules.{rules}
use Rattle.check_parts.proofs.Tests.{table_listed, table_bare, table_lacks}
use Rattle.check_parts.proofs.is_tabled.Goals as goal

pub returns-then-is_table : goal.returns-then-is_table
returns-then-is_table c =
    let a = c.args in
    let l = c.is_table in
    table_listed a.v a.file.now a.len a.blocks a.actual l.result l.ensures c.if-is_table.true

pub returns-then-blocks-eq0 : goal.returns-then-blocks-eq0
returns-then-blocks-eq0 c =
    let a = c.args in
    let l = c.is_table in
    let r = c.is_table-then-blocks-eq0 in
    table_bare a.v a.file.now a.len a.blocks a.actual l.result l.ensures c.if-is_table.false c.if-blocks-eq0.true r.result r.ensures

pub returns : goal.returns
returns c =
    let a = c.args in
    let l = c.is_table in
    table_lacks a.v a.file.now a.len a.blocks a.actual l.result l.ensures c.if-is_table.false c.if-blocks-eq0.false

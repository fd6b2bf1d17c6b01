use borrow.Author.Tests.{not-true, not-false}
use native.Mathlib.Omega.{arith}
use mathlib.Core.Path.{◌≡◌, refl, sym, ap, ◌∙◌}
use Rattle.head.specs.Table.{code_twice, table_of}
use Rattle.head.specs.Inner.{list_of}
use Rattle.head.proofs.Heads.{table_there, first_by_size, list_is, none_there, twice_there, head_15, head_read}
use Rattle.head.proofs.table.tabled.Goals as goal
use Rattle.head.proofs.table.tabled.Goals.{After-entries-table}

pub returns-then-table_missing : goal.returns-then-table_missing
returns-then-table_missing c =
    let f = c.args.file.now in
    head_15 _ _ f c.requires.1 c.refused.ensures (none_there f (sym c.table_missing.ensures ∙ c.if-table_missing.true))

pub bounds-file-16 : goal.bounds-file-16
bounds-file-16 c =
    omega (arith, table_there c.args.file.now (sym c.table_missing.ensures ∙ c.if-table_missing.false))

pub entries-table-requires : goal.entries-table-requires
entries-table-requires c =
    let h = table_there c.args.file.now (sym c.table_missing.ensures ∙ c.if-table_missing.false) in
    (omega arith, omega arith)

pub index_of-requires : goal.index_of-requires
index_of-requires c =
    (c.entries-table.ensures.1.few, c.requires.2)

-- the table by value is the file's
read : (e : After-entries-table) → list_of e.entries-table.result ≡ table_of e.args.file.now
read e = list_is _ _ _ e.entries-table.ensures.0 e.wide-n.ensures.0

pub returns-then-index_of : goal.returns-then-index_of
returns-then-index_of c =
    let i = c in
    let m = i in
    let f = m.args.file.now in
    let there = sym m.table_missing.ensures ∙ i.if-table_missing.false in
    let t = not-true (code_twice (list_of i.entries-table.result)) (sym i.index_of.ensures.value ∙ c.if-index_of.true) in
    let x = i.index_of.ensures.indexed t in
    head_read _ _ f m.requires.1 there (ap code_twice (sym (read (goal.at.returns-then-index_of c).After-entries-table)) ∙ t) (refl, refl) i.entries-table.ensures.1 x.1 (rw (read (goal.at.returns-then-index_of c).After-entries-table) at x.0) (omega (arith, first_by_size f there, table_there f there)) m.bounds_of-b.ensures

pub returns-else-index_of : goal.returns-else-index_of
returns-else-index_of c =
    let i = c in
    let f = i.args.file.now in
    let t = not-false (code_twice (list_of i.entries-table.result)) (sym i.index_of.ensures.value ∙ c.if-index_of.false) in
    head_15 _ _ f i.requires.1 c.refused-else-index_of.ensures (twice_there f (ap code_twice (sym (read (goal.at.returns-else-index_of c).After-entries-table)) ∙ t))

pub table_missing-requires : goal.table_missing-requires
table_missing-requires c = (c.bounds_of-b.ensures.0, c.bounds_of-b.ensures.2)

use borrow.Author.Rules.{rules}
use mathlib.Core.Path.{sym, ◌∙◌}
use Rattle.read_judge.proofs.Passes.{codes_within}
use Rattle.repair_scan.proofs.Laws.{codes_none, codes_unlisted, codes_many, codes_there}
use Rattle.repair_scan.proofs.from_codes.Goals as goal

pub returns-in_default : goal.returns-in_default
returns-in_default c = let k = c.codes-c in codes_none _ _ _ _ _ k.result k.ensures c.in_default.is

pub listed_right-requires : goal.listed_right-requires
listed_right-requires c = c.requires.2

pub with_ends-requires : goal.with_ends-requires
with_ends-requires c =
    let a = c.args in
    let k = c.codes-c in
    (codes_within a.file.now a.spans.now a.stop c.in-Ended.place a.v a.at c.in-Ended.blocks c.in-Ended.actual (sym k.ensures ∙ c.in-Ended.is) c.requires.0, c.requires.1, c.requires.2)

pub returns-then-blocks-le32768 : goal.returns-then-blocks-le32768
returns-then-blocks-le32768 c =
    let k = c.codes-c in
    let l = c.listed_right in
    codes_there _ _ _ _ _ k.result k.ensures c.in-Ended.place c.in-Ended.blocks c.in-Ended.actual c.in-Ended.is l.result l.ensures c.if-listed_right.true c.if-blocks-le32768.true c.with_ends.result c.with_ends.ensures

pub returns-else-blocks-le32768 : goal.returns-else-blocks-le32768
returns-else-blocks-le32768 c =
    let k = c.codes-c in
    let l = c.listed_right in
    codes_many _ _ _ _ _ k.result k.ensures c.in-Ended.place c.in-Ended.blocks c.in-Ended.actual c.in-Ended.is l.result l.ensures c.if-listed_right.true c.if-blocks-le32768.false

pub returns-else-listed_right : goal.returns-else-listed_right
returns-else-listed_right c =
    let k = c.codes-c in
    let l = c.listed_right in
    codes_unlisted _ _ _ _ _ k.result k.ensures c.in-Ended.place c.in-Ended.blocks c.in-Ended.actual c.in-Ended.is l.result l.ensures c.if-listed_right.false

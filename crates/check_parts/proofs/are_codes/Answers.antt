use borrow.Author.Rules.{rules}
use Rattle.check_parts.proofs.Tests.{codes_under, codes_wrong_lem, table_wrong, codes_end}
use Rattle.check_parts.proofs.are_codes.Goals as goal

pub codes-c-requires : goal.codes-c-requires
codes-c-requires c = let w = c.requires.0 in (w.under, w.long, w.all_codes)

pub is_tabled-requires : goal.is_tabled-requires
is_tabled-requires c = let s = c.requires in (s.1, s.2)

pub are_frames-requires : goal.are_frames-requires
are_frames-requires c =
    let a = c.args in
    let k = c.codes-c in
    record {
      under = codes_under a.v a.file.now a.spans.now a.stop a.at k.result k.ensures c.in-Ended.place c.in-Ended.blocks c.in-Ended.actual c.in-Ended.is c.requires.0.under;
      long = c.requires.0.long;
      all_codes = c.requires.0.all_codes;
    }

pub returns-then-is_tabled : goal.returns-then-is_tabled
returns-then-is_tabled c =
    let a = c.args in
    let k = c.codes-c in
    let t = c.is_tabled in
    let w = c.are_frames in
    codes_end a.v a.file.now a.spans.now a.stop a.at a.len k.result k.ensures c.in-Ended.place c.in-Ended.blocks c.in-Ended.actual c.in-Ended.is t.result t.ensures c.if-is_tabled.true w.result w.ensures

pub returns-else-is_tabled : goal.returns-else-is_tabled
returns-else-is_tabled c =
    let a = c.args in
    let k = c.codes-c in
    let t = c.is_tabled in
    table_wrong a.v a.file.now a.spans.now a.stop a.at a.len k.result k.ensures c.in-Ended.place c.in-Ended.blocks c.in-Ended.actual c.in-Ended.is t.result t.ensures c.if-is_tabled.false

pub returns-in-Wrong : goal.returns-in-Wrong
returns-in-Wrong c =
    let a = c.args in
    let k = c.codes-c in
    codes_wrong_lem a.v a.file.now a.spans.now a.stop a.at a.len k.result k.ensures c.in-Wrong.is

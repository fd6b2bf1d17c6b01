use mathlib.Core.Bool.{not}
use mathlib.Core.Path.{ap}
use borrow.Author.Rules.{rules}
use native.Mathlib.Omega.{arith}
use Rattle.newer_judge.proofs.Before.{within, first_within, some_start, start_wrong, codes_wrong_lem, some_frames, listed_wrong, frames_wrong, some_ends, ends_wrong, all_held}
use Rattle.newer_judge.proofs.newer.judge_parts.Goals as goal

pub overflow_add-codes_at-2 : goal.overflow_add-codes_at-2
overflow_add-codes_at-2 c =
    let a = c.args in
    omega (arith, first_within a.file.now a.spans.now a.v a.first a.stop a.len c.requires, c.ranges.stop.fits)

pub start_fits-requires : goal.start_fits-requires
start_fits-requires c =
    let a = c.args in
    let p = c.requires in
    omega (arith, first_within a.file.now a.spans.now a.v a.first a.stop a.len p, within a.file.now a.spans.now a.v a.first a.stop a.len p)

pub returns-then-not-start_fits : goal.returns-then-not-start_fits
returns-then-not-start_fits c =
    let a = c.args in
    let w = c.start_fits in
    start_wrong a.file.now a.spans.now a.v a.first a.stop a.len c.requires w.result w.ensures (ap not c.if-not-start_fits.true)

pub codes-c-requires : goal.codes-c-requires
codes-c-requires c =
    let a = c.args in
    (c.requires.1.many, within a.file.now a.spans.now a.v a.first a.stop a.len c.requires, some_start a.file.now a.spans.now a.v a.first a.stop a.len c.requires)

pub returns-in_default : goal.returns-in_default
returns-in_default c =
    let a = c.args in
    let k = c.codes-c in
    codes_wrong_lem a.file.now a.spans.now a.v a.first a.stop a.len c.requires k.result k.ensures c.in_default.is

pub listed_right-requires : goal.listed_right-requires
listed_right-requires c = c.requires.1.many

pub returns-then-not-listed_right : goal.returns-then-not-listed_right
returns-then-not-listed_right c =
    let a = c.args in
    let k = c.codes-c in
    let w = c.listed_right in
    listed_wrong a.file.now a.spans.now a.v a.first a.stop a.len c.requires k.result k.ensures c.in-Ended.at c.in-Ended.blocks c.in-Ended.actual c.in-Ended.is w.result w.ensures (ap not c.if-not-listed_right.true)

pub frames-r-requires : goal.frames-r-requires
frames-r-requires c =
    let a = c.args in
    let k = c.codes-c in (
      c.requires.2,
      c.requires.1.many,
      within a.file.now a.spans.now a.v a.first a.stop a.len c.requires,
      some_frames a.file.now a.spans.now a.v a.first a.stop a.len c.requires k.result k.ensures c.in-Ended.at c.in-Ended.blocks c.in-Ended.actual c.in-Ended.is,
    )

pub returns-in_default-r : goal.returns-in_default-r
returns-in_default-r c =
    let a = c.args in
    let k = c.codes-c in
    let r = c.frames-r in
    frames_wrong a.file.now a.spans.now a.v a.first a.stop a.len c.requires k.result k.ensures c.in-Ended.at c.in-Ended.blocks c.in-Ended.actual c.in-Ended.is r.result r.ensures c.in_default-r.is

pub ends-e-requires : goal.ends-e-requires
ends-e-requires c =
    let a = c.args in
    let k = c.codes-c in
    let r = c.frames-r in (
      c.requires.2,
      c.requires.1.many,
      within a.file.now a.spans.now a.v a.first a.stop a.len c.requires,
      some_ends a.file.now a.spans.now a.v a.first a.stop a.len c.requires k.result k.ensures c.in-Ended.at c.in-Ended.blocks c.in-Ended.actual c.in-Ended.is r.result r.ensures c.in-Ended-r.ends_at c.in-Ended-r.tally c.in-Ended-r.is,
    )

pub returns-in_default-e : goal.returns-in_default-e
returns-in_default-e c =
    let a = c.args in
    let k = c.codes-c in
    let r = c.frames-r in
    let e = c.ends-e in
    ends_wrong a.file.now a.spans.now a.v a.first a.stop a.len c.requires k.result k.ensures c.in-Ended.at c.in-Ended.blocks c.in-Ended.actual c.in-Ended.is r.result r.ensures c.in-Ended-r.ends_at c.in-Ended-r.tally c.in-Ended-r.is e.result e.ensures c.in_default-e.is

pub returns : goal.returns
returns c =
    let a = c.args in
    let k = c.codes-c in
    let r = c.frames-r in
    let e = c.ends-e in
    let x = c.start_fits in
    let y = c.listed_right in
    all_held a.file.now a.spans.now a.v a.first a.stop a.len c.requires k.result k.ensures c.in-Ended.at c.in-Ended.blocks c.in-Ended.actual c.in-Ended.is r.result r.ensures
    c.in-Ended-r.ends_at c.in-Ended-r.tally c.in-Ended-r.is e.result e.ensures x.result y.result x.ensures (ap not c.if-not-start_fits.false) y.ensures (ap not c.if-not-listed_right.false) c.in-Good.count c.in-Good.at c.in-Good.is

use mathlib.Core.Bool.{not}
use mathlib.Core.Path.{ap}
use borrow.Author.Rules.{rules}
use native.Mathlib.Omega.{arith}
use Rattle.repair_judge.proofs.Laws.{behind_start, start_wrong, nothing_kept, some_kept}
use Rattle.repair_judge.proofs.judge_kept.Goals as goal

pub overflow_add-first : goal.overflow_add-first
overflow_add-first c =
    let a = c.args in
    omega (arith, (behind_start a.file.now a.spans.now a.first a.v a.len c.requires).0, c.well_formed)

pub start_fits-requires : goal.start_fits-requires
start_fits-requires c =
    let a = c.args in
    (behind_start a.file.now a.spans.now a.first a.v a.len c.requires).0

pub returns-then-not-start_fits : goal.returns-then-not-start_fits
returns-then-not-start_fits c =
    let a = c.args in
    let w = c.start_fits in
    start_wrong a.file.now a.spans.now a.first a.v a.len c.requires w.result w.ensures (ap not c.if-not-start_fits.true)

pub overflow_add-first-2 : goal.overflow_add-first-2
overflow_add-first-2 c =
    let a = c.args in
    omega (arith, (behind_start a.file.now a.spans.now a.first a.v a.len c.requires).0, c.well_formed)

pub overflow_add-first-3 : goal.overflow_add-first-3
overflow_add-first-3 c =
    let a = c.args in
    omega (arith, (behind_start a.file.now a.spans.now a.first a.v a.len c.requires).0, c.well_formed)

pub kept_from-stop-requires : goal.kept_from-stop-requires
kept_from-stop-requires c =
    let a = c.args in
    let b = behind_start a.file.now a.spans.now a.first a.v a.len c.requires in
    (b.0, omega arith, b.1)

pub returns-then-stop-eq0 : goal.returns-then-stop-eq0
returns-then-stop-eq0 c =
    let a = c.args in
    let k = c.kept_from-stop in
    nothing_kept a.file.now a.spans.now a.first a.v a.len c.requires k.result k.ensures c.if-stop-eq0.true

pub returns : goal.returns
returns c =
    let a = c.args in
    let k = c.kept_from-stop in
    let w = c.start_fits in
    some_kept a.file.now a.spans.now a.first a.v a.len c.requires k.result k.ensures w.result w.ensures (ap not c.if-not-start_fits.false) c.if-stop-eq0.false

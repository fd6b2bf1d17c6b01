use native.Mathlib.Omega.{arith}
use Rattle.fault_call.proofs.Laws.{in_file, passed_start, fault_on, fault_start}
use borrow.Author.Rules.{rules}
use Rattle.fault_call.proofs.opened.Goals as goal

pub start_fits-requires : goal.start_fits-requires
start_fits-requires c = let a = c.args in in_file a.file.now a.spans.now a.first a.stop a.whole c.requires.0 a.v a.len c.requires.1

pub overflow_add-first-then-start_fits-2 : goal.overflow_add-first-then-start_fits-2
overflow_add-first-then-start_fits-2 c = let a = c.args in omega (arith, in_file a.file.now a.spans.now a.first a.stop a.whole c.requires.0 a.v a.len c.requires.1, c.ranges.stop.fits)

pub pass-requires : goal.pass-requires
pass-requires c = let a = c.args in passed_start a.file.now a.spans.now a.first a.stop a.whole c.requires.0 a.v a.len c.requires.1

pub returns-then-start_fits : goal.returns-then-start_fits
returns-then-start_fits c =
    let a = c.args in
    let t = c.start_fits in
    fault_on a.file.now a.spans.now a.first a.stop a.whole c.requires.0 a.v a.len c.requires.1 c.requires.2 t.result t.ensures c.if-start_fits.true c.pass.result c.pass.ensures

pub returns : goal.returns
returns c =
    let a = c.args in
    let t = c.start_fits in
    fault_start a.file.now a.spans.now a.first a.stop a.whole c.requires.0 a.v a.len c.requires.1 c.requires.2 t.result t.ensures c.if-start_fits.false c.start_reason-reason.result c.start_reason-reason.ensures

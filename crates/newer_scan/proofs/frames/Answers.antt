use mathlib.Core.Path.{sym, ap}
use Prim.Native.Nat.{◌-◌, ◌^◌}
use native.Mathlib.Omega.{arith}
use lib.ListN.{length, get_or}
use Rattle.read_scan.proofs.Counting.{under_to}
use Rattle.newer_scan.specs.declared.event.Turn.TheVariants.{Passes, Goes, Ends, Refused}
use Rattle.newer_scan.proofs.Tries.{turned_as}
use Rattle.newer_scan.proofs.Runs.{Going, going_first, ends_last, within, passes_on, takes_on, ends_other, fails_all}
use borrow.Author.Rules.{rules}
use Rattle.newer_scan.proofs.frames.Goals as goal

pub loop-at-init : goal.loop-at-init
loop-at-init c =
    let a = c.args in
    going_first a.v c.requires.0 a.file.now a.spans.now a.first a.stop c.requires.3 c.outset-m.result c.outset-m.ensures c.nothing-tally.result c.nothing-tally.ensures

pub bounds-file-at : goal.bounds-file-at
bounds-file-at c = omega (arith, c.requires.2, c.loop-at-test.true)

pub span_of-n-requires : goal.span_of-n-requires
span_of-n-requires c = c.requires.1

pub slice_bounds-try_event-end : goal.slice_bounds-try_event-end
slice_bounds-try_event-end c = sym (ap length c.sizes_of-sizes.ensures)

pub try_event-t-requires : goal.try_event-t-requires
try_event-t-requires c =
    let a = c.args in
    let l = c.loop-at in
    let n = c.span_of-n in
    let less = c.loop-at-test.true in
    let whole = (within a.v c.requires.0 a.file.now a.spans.now a.first a.stop l.m l.tally l.at l.invariant less n.result n.ensures.0).1 in
    (l.invariant.fair, under_to l.tally l.at (2 ^ 64 - 2) l.invariant.under (omega arith), c.sizes_of-sizes.ensures, omega (arith, whole, c.requires.2))

pub overflow_add-at : goal.overflow_add-at
overflow_add-at c =
    let a = c.args in
    let l = c.loop-at in
    let n = c.span_of-n in
    let less = c.loop-at-test.true in
    omega (arith, (within a.v c.requires.0 a.file.now a.spans.now a.first a.stop l.m l.tally l.at l.invariant less n.result n.ensures.0).1, c.requires.2)

pub loop-at-smaller-in-Passes : goal.loop-at-smaller-in-Passes
loop-at-smaller-in-Passes c =
    let a = c.args in
    let l = c.loop-at in
    let n = c.span_of-n in
    let less = c.loop-at-test.true in
    let (some, whole) = within a.v c.requires.0 a.file.now a.spans.now a.first a.stop l.m l.tally l.at l.invariant less n.result n.ensures.0 in omega (arith, some, whole)

pub loop-at-preserved-in-Passes : goal.loop-at-preserved-in-Passes
loop-at-preserved-in-Passes c =
    let a = c.args in
    let l = c.loop-at in
    let n = c.span_of-n in
    let less = c.loop-at-test.true in
    let code = get_or a.file.now l.at 0 in
    let tried = c.try_event-t in
    let x = turned_as a.v a.file.now l.m l.tally l.at n.result code tried.result Passes c.in-Passes.is tried.ensures in
    passes_on a.v c.requires.0 a.file.now a.spans.now a.first a.stop l.m l.tally l.at l.invariant less n.result n.ensures.0 x.1

pub overflow_add-at-in-Goes : goal.overflow_add-at-in-Goes
overflow_add-at-in-Goes c =
    let a = c.args in
    let l = c.loop-at in
    let n = c.span_of-n in
    let less = c.loop-at-test.true in
    omega (arith, (within a.v c.requires.0 a.file.now a.spans.now a.first a.stop l.m l.tally l.at l.invariant less n.result n.ensures.0).1, c.requires.2)

pub loop-at-smaller : goal.loop-at-smaller
loop-at-smaller c =
    let a = c.args in
    let l = c.loop-at in
    let n = c.span_of-n in
    let less = c.loop-at-test.true in
    let (some, whole) = within a.v c.requires.0 a.file.now a.spans.now a.first a.stop l.m l.tally l.at l.invariant less n.result n.ensures.0 in omega (arith, some, whole)

pub loop-at-preserved : goal.loop-at-preserved
loop-at-preserved c =
    let a = c.args in
    let l = c.loop-at in
    let n = c.span_of-n in
    let less = c.loop-at-test.true in
    let code = get_or a.file.now l.at 0 in
    let tried = c.try_event-t in
    let x = turned_as a.v a.file.now l.m l.tally l.at n.result code tried.result (Goes c.in-Goes.stage c.in-Goes.counts) c.in-Goes.is tried.ensures in
    takes_on a.v c.requires.0 a.file.now a.spans.now a.first a.stop l.m l.tally l.at l.invariant less n.result n.ensures.0 c.in-Goes.stage c.in-Goes.counts x

pub returns-in-Ends : goal.returns-in-Ends
returns-in-Ends c =
    let a = c.args in
    let l = c.loop-at in
    let n = c.span_of-n in
    let less = c.loop-at-test.true in
    let code = get_or a.file.now l.at 0 in
    let tried = c.try_event-t in
    let x = turned_as a.v a.file.now l.m l.tally l.at n.result code tried.result Ends c.in-Ends.is tried.ensures in
    ends_other a.v c.requires.0 a.file.now a.spans.now a.first a.stop l.m l.tally l.at l.invariant less n.result n.ensures.0 x c.ended.result c.ended.ensures

pub returns-in-Refused : goal.returns-in-Refused
returns-in-Refused c =
    let a = c.args in
    let l = c.loop-at in
    let n = c.span_of-n in
    let less = c.loop-at-test.true in
    let code = get_or a.file.now l.at 0 in
    let tried = c.try_event-t in
    let x = turned_as a.v a.file.now l.m l.tally l.at n.result code tried.result Refused c.in-Refused.is tried.ensures in
    fails_all a.v c.requires.0 a.file.now a.spans.now a.first a.stop l.m l.tally l.at l.invariant less n.result n.ensures.0 x

pub returns : goal.returns
returns c =
    let a = c.args in
    let l = c.loop-at in
    ends_last a.v c.requires.0 a.file.now a.spans.now a.first a.stop l.m l.tally l.at l.invariant (omega (arith, c.loop-at-test.false)) c.ended-2.result c.ended-2.ensures

use borrow.Author.Rules.{rules}
use mathlib.Core.Path.{sym, ◌∙◌}
use Prim.Native.Nat.{◌-◌}
use native.Mathlib.Omega.{arith}
use Rattle.repair_walk.proofs.Laws.{ahead, Passing, passing_first, passing_done, passing_next}
use Rattle.repair_walk.proofs.pass_events.Goals as goal

pub loop-at-init : goal.loop-at-init
loop-at-init c = passing_first c.args.file.now c.args.spans.now c.args.stop c.args.first c.requires.0

pub is_whole-requires : goal.is_whole-requires
is_whole-requires c = (c.requires.1, c.requires.2)

pub bounds-file-at : goal.bounds-file-at
bounds-file-at c =
    let h = ahead c.args.file.now c.args.spans.now c.args.stop c.loop-at.at (sym c.is_whole.ensures ∙ c.loop-at-test.true) in
    omega (arith, h.inside, c.requires.1)

pub span_of-at-requires : goal.span_of-at-requires
span_of-at-requires c = c.requires.2

pub overflow_add-at : goal.overflow_add-at
overflow_add-at c =
    let h = ahead c.args.file.now c.args.spans.now c.args.stop c.loop-at.at (sym c.is_whole.ensures ∙ c.loop-at-test.true) in
    omega (arith, h.ends, c.span_of-at.ensures.0, c.ranges.stop.fits)

pub overflow_add-events : goal.overflow_add-events
overflow_add-events c =
    let h = ahead c.args.file.now c.args.spans.now c.args.stop c.loop-at.at (sym c.is_whole.ensures ∙ c.loop-at-test.true) in
    omega (arith, h.inside, c.loop-at.invariant.few, c.ranges.stop.fits)

pub loop-at-smaller : goal.loop-at-smaller
loop-at-smaller c =
    let h = ahead c.args.file.now c.args.spans.now c.args.stop c.loop-at.at (sym c.is_whole.ensures ∙ c.loop-at-test.true) in
    omega (arith, h.on, h.ends, c.span_of-at.ensures.0)

pub loop-at-preserved : goal.loop-at-preserved
loop-at-preserved c =
    let l = c.loop-at in
    passing_next c.args.file.now c.args.spans.now c.args.stop c.args.first l.at l.events l.invariant (sym c.is_whole.ensures ∙ c.loop-at-test.true) c.span_of-at.result c.span_of-at.ensures.0

pub returns : goal.returns
returns c =
    let l = c.loop-at in
    passing_done c.args.file.now c.args.spans.now c.args.stop c.args.first l.at l.events l.invariant (sym c.is_whole.ensures ∙ c.loop-at-test.false)

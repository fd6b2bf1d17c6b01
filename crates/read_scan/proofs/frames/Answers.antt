use mathlib.Core.Path.{refl, sym, ap, ◌∙◌}
use Prim.Native.Nat.{◌+◌, ◌-◌, ◌^◌}
use native.Mathlib.Omega.{arith}
use lib.ListN.{length, get_or}
use Rattle.read_order.specs.Inner.{order_of}
use Rattle.read_scan.proofs.Counting.{under_to}
use Rattle.read_scan.proofs.Jumps.{turned_first, turned_goes, turned_leaps}
use Rattle.read_scan.proofs.Turns.{turn_end, turn_other, turn_refused, tried_as}
use Rattle.read_scan.specs.declared.event.Turn.TheVariants.{Goes, Refused}
use Rattle.read_scan.proofs.frames.Goals as goal

pub loop-at-init : goal.loop-at-init
loop-at-init c =
    let a = c.args in
    let h = c.requires in
    turned_first a.v (order_of a.order) a.file.now a.spans.now a.stop _ a.first h.0 h.1 (ap (λ n. 1 + n) c.record_size-span.ensures.0) c.outset-m.result c.outset-m.ensures
    c.nothing-tally.result c.nothing-tally.ensures

pub bounds-file-at : goal.bounds-file-at
bounds-file-at c = omega (arith, c.loop-at.invariant.turning.asked.long)

pub goes_on-requires : goal.goes_on-requires
goes_on-requires c = let t = c.loop-at.invariant in (t.behind, t.turning.asked.under, t.turning.asked.long, c.requires.2)

pub leapt-far-requires : goal.leapt-far-requires
leapt-far-requires c =
    let t = c.loop-at.invariant in
    let e = (c.goes_on.ensures c.if-goes_on.true).1 in
    (e.later, omega (arith, e.fits, t.turning.asked.long), t.turning.under)

pub overflow_add-last : goal.overflow_add-last
overflow_add-last c =
    let t = c.loop-at.invariant in omega (arith, (c.goes_on.ensures c.if-goes_on.true).1.fits, t.turning.asked.long, t.behind, c.leapt-far.ensures.2, c.well_formed)

pub overflow_add-at : goal.overflow_add-at
overflow_add-at c =
    let t = c.loop-at.invariant in omega (arith, (c.goes_on.ensures c.if-goes_on.true).1.fits, t.turning.asked.long, c.leapt-far.ensures.2, c.well_formed)

pub loop-at-smaller-then-goes_on : goal.loop-at-smaller-then-goes_on
loop-at-smaller-then-goes_on c = let e = (c.goes_on.ensures c.if-goes_on.true).1 in omega (arith, e.fits, e.later, c.leapt-far.ensures.2)

pub loop-at-preserved-then-goes_on : goal.loop-at-preserved-then-goes_on
loop-at-preserved-then-goes_on c =
    let a = c.args in
    let l = c.loop-at in
    let g = c.goes_on.ensures c.if-goes_on.true in
    let r = c.leapt-far in
    turned_leaps a.v (order_of a.order) a.file.now a.spans.now a.stop _ a.first l.m l.at l.tally l.last l.invariant g.0 g.1 r.result.stage
    r.ensures.0 r.result.tally r.ensures.1 r.result.by r.ensures.2

pub returns-in_default : goal.returns-in_default
returns-in_default c =
    let a = c.args in
    let l = c.loop-at in
    let code = get_or a.file.now l.at 0 in
    let q =
    turn_other a.v (order_of a.order) a.file.now a.spans.now a.stop _ a.first l.m l.at l.tally l.invariant.turning c.loop-at-test.true code refl
    (sym c.kind_of-k.ensures ∙ c.in_default.is) in
    (c.ended.ensures.0 ∙ q.0, c.ended.ensures.1 ∙ q.1)

pub span_of-n-requires : goal.span_of-n-requires
span_of-n-requires c = c.requires.2

pub slice_bounds-try_event-end : goal.slice_bounds-try_event-end
slice_bounds-try_event-end c = sym (ap length c.sizes_of-sizes.ensures)

pub try_event-t-requires : goal.try_event-t-requires
try_event-t-requires c =
    (c.loop-at.invariant.turning.asked, c.sizes_of-sizes.ensures, c.span_of-n.ensures.1)

pub returns-in-Refused : goal.returns-in-Refused
returns-in-Refused c =
    let a = c.args in
    let l = c.loop-at in
    let code = get_or a.file.now l.at 0 in
    let kind = sym c.kind_of-k.ensures ∙ c.in-Frame.is in
    let n = c.span_of-n in
    let e = c.try_event-t in
    turn_refused a.v (order_of a.order) a.file.now a.spans.now a.stop _ a.first l.m l.at l.tally l.invariant.turning c.loop-at-test.true code refl c.in-Frame.family kind
    n.result n.ensures.0
    (tried_as a.v (order_of a.order) a.file.now _ a.stop l.m l.at n.result c.in-Frame.family e.result Refused c.in-Refused.is e.ensures)

pub counted-tally-requires : goal.counted-tally-requires
counted-tally-requires c =
    let a = c.args in
    let l = c.loop-at in
    let n = c.span_of-n in
    let e = c.try_event-t in
    let g =
    tried_as a.v (order_of a.order) a.file.now _ a.stop l.m l.at n.result c.in-Frame.family e.result (Goes c.in-Goes.stage c.in-Goes.next c.in-Goes.word) c.in-Goes.is e.ensures in
    (under_to l.tally l.at (2 ^ 64 - 2) l.invariant.turning.under (omega arith), g.seated)

pub loop-at-smaller : goal.loop-at-smaller
loop-at-smaller c =
    let a = c.args in
    let l = c.loop-at in
    let n = c.span_of-n in
    let e = c.try_event-t in
    let g =
    tried_as a.v (order_of a.order) a.file.now _ a.stop l.m l.at n.result c.in-Frame.family e.result (Goes c.in-Goes.stage c.in-Goes.next c.in-Goes.word) c.in-Goes.is e.ensures in
    omega (arith, g.later, g.asked.under)

pub loop-at-preserved : goal.loop-at-preserved
loop-at-preserved c =
    let a = c.args in
    let l = c.loop-at in
    let code = get_or a.file.now l.at 0 in
    let kind = sym c.kind_of-k.ensures ∙ c.in-Frame.is in
    let n = c.span_of-n in
    let e = c.try_event-t in
    let g =
    tried_as a.v (order_of a.order) a.file.now _ a.stop l.m l.at n.result c.in-Frame.family e.result (Goes c.in-Goes.stage c.in-Goes.next c.in-Goes.word) c.in-Goes.is e.ensures in
    turned_goes a.v (order_of a.order) a.file.now a.spans.now a.stop _ a.first l.m l.at l.tally l.last l.invariant c.loop-at-test.true code refl c.in-Frame.family kind
    n.result n.ensures.0 c.in-Goes.stage c.in-Goes.next c.in-Goes.word g c.counted-tally.result c.counted-tally.ensures c.begins-last.result c.begins-last.ensures

pub returns : goal.returns
returns c =
    let a = c.args in
    let l = c.loop-at in
    let q = turn_end a.v (order_of a.order) a.file.now a.spans.now a.stop _ a.first l.m l.at l.tally l.invariant.turning c.loop-at-test.false in
    (c.ended-2.ensures.0 ∙ q.0, c.ended-2.ensures.1 ∙ q.1)

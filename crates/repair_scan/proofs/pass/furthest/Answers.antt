use borrow.Author.Rules.{rules}
use mathlib.Core.Path.{refl, sym, ap, ◌∙◌}
use Prim.Native.Nat.{◌+◌, ◌-◌, ◌^◌}
use native.Mathlib.Omega.{arith}
use lib.ListN.{length, get_or}
use Rattle.grammar.specs.WellFormed.{ascending}
use Rattle.read_scan.proofs.Counting.{under_to}
use Rattle.read_scan.proofs.Turns.{tried_as}
use Rattle.read_scan.specs.declared.event.Turn.TheVariants.{Goes, Refused}
use Rattle.repair_scan.proofs.Laws.{Turning, turn_first, turn_end, turn_other, turn_refused, turn_goes}
use Rattle.repair_scan.proofs.pass.furthest.Goals as goal

pub loop-at-init : goal.loop-at-init
loop-at-init c =
    let a = c.args in
    let h = c.requires in
    turn_first a.v a.file.now a.spans.now a.stop _ a.first h.0 h.1 (ap (λ n. 1 + n) c.record_size-span.ensures.0) c.outset-m.result c.outset-m.ensures c.nothing-tally.result c.nothing-tally.ensures

pub bounds-file-at : goal.bounds-file-at
bounds-file-at c = omega (arith, c.loop-at.invariant.asked.long)

pub returns-in_default : goal.returns-in_default
returns-in_default c =
    let a = c.args in
    let l = c.loop-at in
    let s = c.settled-best in
    let code = get_or a.file.now l.at 0 in (
      turn_other a.v a.file.now a.spans.now a.stop _ a.first l.m l.at l.best l.tally l.invariant s.result s.ensures c.loop-at-test.true code refl
          (sym c.kind_of-k.ensures ∙ c.in_default.is),
      l.invariant.asked.under,
    )

pub span_of-n-requires : goal.span_of-n-requires
span_of-n-requires c = c.requires.2

pub slice_bounds-try_event-end : goal.slice_bounds-try_event-end
slice_bounds-try_event-end c = sym (ap length c.sizes_of-sizes.ensures)

pub try_event-t-requires : goal.try_event-t-requires
try_event-t-requires c = (c.loop-at.invariant.asked, c.sizes_of-sizes.ensures, c.span_of-n.ensures.1)

pub returns-in-Refused : goal.returns-in-Refused
returns-in-Refused c =
    let a = c.args in
    let l = c.loop-at in
    let s = c.settled-best in
    let code = get_or a.file.now l.at 0 in
    let n = c.span_of-n in
    let e = c.try_event-t in (
      turn_refused a.v a.file.now a.spans.now a.stop _ a.first l.m l.at l.best l.tally l.invariant s.result s.ensures c.loop-at-test.true code refl c.in-Frame.family
          (sym c.kind_of-k.ensures ∙ c.in-Frame.is) n.result n.ensures.0
          (tried_as a.v ascending a.file.now _ a.stop l.m l.at n.result c.in-Frame.family e.result Refused c.in-Refused.is e.ensures),
      l.invariant.asked.under,
    )

pub counted-tally-requires : goal.counted-tally-requires
counted-tally-requires c =
    let a = c.args in
    let l = c.loop-at in
    let n = c.span_of-n in
    let e = c.try_event-t in
    let g = tried_as a.v ascending a.file.now _ a.stop l.m l.at n.result c.in-Frame.family e.result (Goes c.in-Goes.stage c.in-Goes.next c.in-Goes.word) c.in-Goes.is e.ensures in
    (under_to l.tally l.at (2 ^ 64 - 2) l.invariant.under (omega arith), g.seated)

pub loop-at-smaller : goal.loop-at-smaller
loop-at-smaller c =
    let a = c.args in
    let l = c.loop-at in
    let n = c.span_of-n in
    let e = c.try_event-t in
    let g = tried_as a.v ascending a.file.now _ a.stop l.m l.at n.result c.in-Frame.family e.result (Goes c.in-Goes.stage c.in-Goes.next c.in-Goes.word) c.in-Goes.is e.ensures in
    omega (arith, g.later, g.asked.under)

pub loop-at-preserved : goal.loop-at-preserved
loop-at-preserved c =
    let a = c.args in
    let l = c.loop-at in
    let s = c.settled-best in
    let code = get_or a.file.now l.at 0 in
    let n = c.span_of-n in
    let e = c.try_event-t in
    let g = tried_as a.v ascending a.file.now _ a.stop l.m l.at n.result c.in-Frame.family e.result (Goes c.in-Goes.stage c.in-Goes.next c.in-Goes.word) c.in-Goes.is e.ensures in
    turn_goes a.v a.file.now a.spans.now a.stop _ a.first l.m l.at l.best l.tally l.invariant s.result s.ensures c.loop-at-test.true code refl c.in-Frame.family
    (sym c.kind_of-k.ensures ∙ c.in-Frame.is) n.result n.ensures.0 c.in-Goes.stage c.in-Goes.next c.in-Goes.word g c.counted-tally.result c.counted-tally.ensures

pub returns : goal.returns
returns c =
    let a = c.args in
    let l = c.loop-at in
    let s = c.settled-last in
    (turn_end a.v a.file.now a.spans.now a.stop _ a.first l.m l.at l.best l.tally l.invariant s.result s.ensures c.loop-at-test.false, l.invariant.asked.under)

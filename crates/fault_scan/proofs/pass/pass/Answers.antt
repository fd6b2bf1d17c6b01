use borrow.Author.Rules.{rules}
use mathlib.Core.Path.{sym, ap, ◌∙◌}
use Prim.Native.Nat.{◌+◌, ◌-◌}
use native.Mathlib.Omega.{arith}
use lib.ListN.{length}
use Rattle.fault_scan.proofs.Passing.{ahead, here_is, Passing, passing_first, passing_done, passing_wrong, passing_on}
use Rattle.fault_scan.proofs.pass.pass.Goals as goal

pub loop-sizes-init : goal.loop-sizes-init
loop-sizes-init c = let a = c.args in passing_first a.file.now a.spans.now a.v a.whole a.first a.stop _ c.requires (ap (λ n. 1 + n) c.record_size-span.ensures.0)

pub is_whole-requires : goal.is_whole-requires
is_whole-requires c = (c.requires.within, c.requires.many)

pub bounds-file-at : goal.bounds-file-at
bounds-file-at c =
    let a = c.args in
    let l = c.loop-sizes in
    let h = ahead a.file.now a.spans.now a.stop l.at (sym c.is_whole.ensures ∙ c.loop-sizes-test.true) in
    omega (arith, h.inside, c.requires.within)

pub span_of-requires : goal.span_of-requires
span_of-requires c = c.requires.many

pub overflow_add-next : goal.overflow_add-next
overflow_add-next c =
    let a = c.args in
    let l = c.loop-sizes in
    let h = ahead a.file.now a.spans.now a.stop l.at (sym c.is_whole.ensures ∙ c.loop-sizes-test.true) in
    omega (arith, h.ends, c.span_of.ensures.0, c.ranges.stop.fits)

pub slice_bounds-turn-end : goal.slice_bounds-turn-end
slice_bounds-turn-end c = sym (ap length c.sizes_of-sizes.ensures)

pub turn-t-requires : goal.turn-t-requires
turn-t-requires c =
    let a = c.args in
    let l = c.loop-sizes in (
      here_is a.file.now a.spans.now a.stop a.whole l.at l.invariant.passed (sym c.is_whole.ensures ∙ c.loop-sizes-test.true) (l.at + c.span_of.result) (ap (λ n. l.at + n) c.span_of.ensures.0) a.v _ l.invariant.span_is,
      l.invariant.fits,
      c.sizes_of-sizes.ensures,
      omega (arith, c.span_of.ensures.1),
    )

pub returns-in-Wrong : goal.returns-in-Wrong
returns-in-Wrong c =
    let a = c.args in
    let l = c.loop-sizes in
    passing_wrong a.file.now a.spans.now a.v a.whole a.first a.stop _ l.x l.at l.events l.invariant (sym c.is_whole.ensures ∙ c.loop-sizes-test.true) (l.at + c.span_of.result) (ap (λ n. l.at + n) c.span_of.ensures.0)
    c.turn-t.result c.in-Wrong.reason c.in-Wrong.is c.turn-t.ensures

pub overflow_add-events : goal.overflow_add-events
overflow_add-events c =
    let a = c.args in
    let l = c.loop-sizes in
    let h = ahead a.file.now a.spans.now a.stop l.at (sym c.is_whole.ensures ∙ c.loop-sizes-test.true) in
    omega (arith, h.inside, l.invariant.few, c.ranges.stop.fits)

pub loop-sizes-smaller : goal.loop-sizes-smaller
loop-sizes-smaller c =
    let a = c.args in
    let l = c.loop-sizes in
    let h = ahead a.file.now a.spans.now a.stop l.at (sym c.is_whole.ensures ∙ c.loop-sizes-test.true) in
    omega (arith, h.on, h.ends, c.span_of.ensures.0)

pub loop-sizes-preserved : goal.loop-sizes-preserved
loop-sizes-preserved c =
    let a = c.args in
    let l = c.loop-sizes in
    passing_on a.file.now a.spans.now a.v a.whole a.first a.stop _ l.x l.at l.events l.invariant (sym c.is_whole.ensures ∙ c.loop-sizes-test.true) (l.at + c.span_of.result) (ap (λ n. l.at + n) c.span_of.ensures.0)
    c.turn-t.result c.in-Goes.standing c.in-Goes.is c.turn-t.ensures

pub last_reason-reason-requires : goal.last_reason-reason-requires
last_reason-reason-requires c = c.requires.many

pub returns : goal.returns
returns c =
    let a = c.args in
    let l = c.loop-sizes in
    passing_done a.file.now a.spans.now a.v a.whole a.first a.stop _ l.x l.at l.events l.invariant (sym c.is_whole.ensures ∙ c.loop-sizes-test.false) c.last_reason-reason.result c.last_reason-reason.ensures

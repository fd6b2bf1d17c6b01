use mathlib.Core.Path.{refl, sym, ◌∙◌}
use Prim.Native.Nat.{◌-◌}
use native.Mathlib.Omega.{arith}
use Rattle.newer_places.proofs.Scans.{Passing, passing_first, passing_more, passing_span, passed_seat, passed_all}
use Rattle.newer_places.proofs.scan.next_seat.Reads as reads
use Rattle.newer_places.proofs.scan.next_seat.Lts as lts
use Rattle.newer_places.proofs.scan.is_seat.Reads as is-seat-reads
use Rattle.read_scan.proofs.event.span_of.Reads as span-of-reads
use Rattle.newer_places.proofs.scan.next_seat.Goals as goal

pub loop-e-init : goal.loop-e-init
loop-e-init c = passing_first _ _ _ _ c.requires.1

pub bounds-file-e : goal.bounds-file-e
bounds-file-e c = let w = passing_span _ _ _ _ c.loop-e.invariant c.loop-e-test.true refl in omega (arith, w.2, c.loop-e-test.true)

pub returns-then-is_seat : goal.returns-then-is_seat
returns-then-is_seat c = passed_seat _ _ _ _ c.loop-e.invariant (sym c.is_seat.ensures ∙ c.if-is_seat.true)

pub span_of-e-requires : goal.span_of-e-requires
span_of-e-requires c = c.requires.0

pub overflow_add-e : goal.overflow_add-e
overflow_add-e c = let w = passing_span _ _ _ _ c.loop-e.invariant c.loop-e-test.true c.span_of-e.ensures.0 in omega (arith, w.1, w.2, c.well_formed)

pub loop-e-smaller : goal.loop-e-smaller
loop-e-smaller c = let w = passing_span _ _ _ _ c.loop-e.invariant c.loop-e-test.true c.span_of-e.ensures.0 in omega (arith, w.0, c.loop-e-test.true)

pub loop-e-preserved : goal.loop-e-preserved
loop-e-preserved c = passing_more _ _ _ _ c.loop-e.invariant c.loop-e-test.true (sym c.is_seat.ensures ∙ c.if-is_seat.false) c.span_of-e.ensures.0

pub returns : goal.returns
returns c = passed_all _ _ _ _ c.loop-e.invariant (omega (arith, c.loop-e-test.false))

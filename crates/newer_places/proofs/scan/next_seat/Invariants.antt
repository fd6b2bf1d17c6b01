-- The invariant: the events so far bring players nothing.
use mathlib.Core.Path.{refl, sym, ◌∙◌}
use Prim.Native.Nat.{◌-◌}
use native.Mathlib.Omega.{arith}
use Rattle.newer_places.proofs.Scans.{Passing, passing_first, passing_more, passing_span, passed_seat, passed_all}
use Rattle.newer_places.proofs.scan.next_seat.Reads as reads
use Rattle.newer_places.proofs.scan.next_seat.Lts as lts
use Rattle.newer_places.proofs.scan.is_seat.Reads as is-seat-reads
use Rattle.read_scan.proofs.event.span_of.Reads as span-of-reads
use Rattle.newer_places.proofs.scan.next_seat.Given as goal

abbrev pub invariant-loop-e : goal.invariant-loop-e
invariant-loop-e l = Passing l.file l.spans l.at l.stop l.e

abbrev pub decreases-loop-e : goal.decreases-loop-e
decreases-loop-e l = l.stop - l.e

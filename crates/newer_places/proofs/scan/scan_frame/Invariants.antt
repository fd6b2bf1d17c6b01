-- The invariant: what was found before the loop was found so far.
use mathlib.Core.Path.{◌≡◌, refl}
use mathlib.Core.Bool.{true}
use Prim.Native.Nat.{◌-◌, ◌≤◌}
use native.Mathlib.Omega.{arith}
use lib.ListN.{length}
use Rattle.newer_places.specs.Inner.{Stays}
use Rattle.newer_places.proofs.Scans.{scan_of, stood_whole, stood_span, stood_covers, passed_inside, scan_first, Going, going_first, going_back, going_more}
use Rattle.newer_places.proofs.scan.scan_frame.Reads as reads
use Rattle.newer_places.proofs.scan.scan_frame.Lts as lts
use Rattle.newer_places.proofs.scan.next_seat.Reads as next-seat-reads
use Rattle.newer_places.proofs.scan.note.Reads as note-reads
use Rattle.newer_places.proofs.scan.open_at.Reads as open-at-reads
use Rattle.newer_places.proofs.scan.stays.Reads as stays-reads
use Rattle.read_scan.proofs.event.span_of.Reads as span-of-reads
use Rattle.newer_places.proofs.scan.scan_frame.Given as goal

abbrev pub invariant-loop-on : goal.invariant-loop-on
invariant-loop-on l =
    Going l.frames l.file l.spans l.at l.stop l.t l.initial.places (scan_of l.initial.e l.initial.j l.begun) l.places (scan_of l.e l.j l.begun) × (l.on ≡ true → Stays l.file l.e l.stop l.j) × (128 ≤ length l.initial.places)

abbrev pub decreases-loop-on : goal.decreases-loop-on
decreases-loop-on l = l.stop - l.e

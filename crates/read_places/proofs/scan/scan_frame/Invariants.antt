use mathlib.Core.Path.{◌≡◌}
use mathlib.Core.Bool.{true}
use Prim.Native.Nat.{◌-◌, ◌≤◌}
use lib.ListN.{length}
use Rattle.read_places.specs.Inner.{open_of, Scanned, Stays}
use Rattle.read_places.proofs.scan.scan_frame.Given as goal

abbrev pub invariant-loop-on : goal.invariant-loop-on
invariant-loop-on l = Scanned l.z l.start l.frames l.file l.at l.stop (open_of l.was l.id) l.t l.initial.places l.places (record { next = l.e; count = l.j; opened = l.begun }) × (l.on ≡ true → Stays l.start l.frames l.file l.e l.stop l.begun l.j) × (128 ≤ length l.initial.places)

abbrev pub decreases-loop-on : goal.decreases-loop-on
decreases-loop-on l = l.stop - l.e

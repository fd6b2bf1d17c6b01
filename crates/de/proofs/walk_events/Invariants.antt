-- The invariant: from here on the run stops where it did from the start.
use Prim.Native.Nat.{◌≤◌, ◌-◌}
use mathlib.Core.Path.{◌≡◌}
use lib.ListN.{length}
use Rattle.de.specs.Walk.{run, run_of}
use Rattle.de.specs.Inner.{stopped}
use Rattle.de.proofs.Runs.{counted}
use Rattle.de.proofs.walk_events.Given as goal

abbrev pub invariant-loop-next : goal.invariant-loop-next
invariant-loop-next l =
    (l.events ≤ l.place) × (l.place ≤ l.stop) × (stopped (run_of l.file) ≡ counted l.events (run (length l.file - l.events) l.file l.place))

abbrev pub decreases-loop-next : goal.decreases-loop-next
decreases-loop-next l = l.stop - l.place

use Prim.Native.Nat.{◌+◌, ◌-◌, ◌*◌, ◌≤◌}
use lib.ListN.{length}
use Rattle.map_reader.proofs.Passing.{Passing}
use Rattle.map_reader.proofs.skip.+skip_map_skip_value.Given as goal

abbrev pub decreases-skip_map : goal.decreases-skip_map
decreases-skip_map l = 2 * l.depth + 1

abbrev pub decreases-skip_value : goal.decreases-skip_value
decreases-skip_value l = 2 * l.depth

abbrev pub invariant-skip_map-loop-p : goal.invariant-skip_map-loop-p
invariant-skip_map-loop-p l = (l.at ≤ l.p) × Passing l.b l.depth l.at l.p

abbrev pub decreases-skip_map-loop-p : goal.decreases-skip_map-loop-p
decreases-skip_map-loop-p l = length l.b - l.p

use Prim.Native.Nat.{◌+◌, ◌-◌, ◌*◌, ◌≤◌}
use lib.ListN.{length}
use Rattle.map_reader.proofs.Going.{Going}
use Rattle.map_reader.proofs.read.+read_map_read_value.Given as goal

abbrev pub decreases-read_map : goal.decreases-read_map
decreases-read_map l = 2 * l.depth + 1

abbrev pub decreases-read_value : goal.decreases-read_value
decreases-read_value l = 2 * l.depth

abbrev pub invariant-read_map-loop-stop : goal.invariant-read_map-loop-stop
invariant-read_map-loop-stop l = (l.at + l.n ≤ l.p) × (l.p ≤ length l.b) × Going l.b l.depth l.at l.p l.n

abbrev pub decreases-read_map-loop-stop : goal.decreases-read_map-loop-stop
decreases-read_map-loop-stop l = length l.b - l.p

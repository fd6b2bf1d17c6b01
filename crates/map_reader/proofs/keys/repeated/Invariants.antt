use Prim.Native.Nat.{◌-◌}
use lib.ListN.{length}
use Rattle.map_reader.proofs.KeyRuns.{Looking}
use Rattle.map_reader.proofs.keys.repeated.Given as goal

abbrev pub invariant-loop-q : goal.invariant-loop-q
invariant-loop-q l = Looking l.b l.depth l.at l.p l.q

abbrev pub decreases-loop-q : goal.decreases-loop-q
decreases-loop-q l = length l.b - l.q

use Prim.Native.Nat.{◌-◌}
use lib.ListN.{length}
use Rattle.map_reader.proofs.Fills.{Filling}
use Rattle.map_reader.proofs.fill.+fill_map.Given as goal

abbrev pub decreases-fill_map : goal.decreases-fill_map
decreases-fill_map l = l.depth

abbrev pub invariant-loop-q : goal.invariant-loop-q
invariant-loop-q l = Filling l.b l.depth l.at l.initial.rows l.i l.rows l.p l.k l.n

abbrev pub decreases-loop-q : goal.decreases-loop-q
decreases-loop-q l = length l.b - l.p

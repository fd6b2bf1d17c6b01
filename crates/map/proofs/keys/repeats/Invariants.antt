use Prim.Native.Nat.{◌-◌}
use Rattle.map.proofs.KeyLaws.{Looking}
use Rattle.map.proofs.keys.repeats.Given as goal

abbrev pub invariant-loop-q : goal.invariant-loop-q
invariant-loop-q l = Looking l.rows l.texts l.depth l.i l.k l.q

abbrev pub decreases-loop-q : goal.decreases-loop-q
decreases-loop-q l = l.k - l.q

use Prim.Native.Nat.{◌-◌}
use Rattle.map.proofs.KeyLaws.{Doubling}
use Rattle.map.proofs.keys.+doubled.Given as goal

abbrev pub decreases-doubled : goal.decreases-doubled
decreases-doubled l = l.depth

abbrev pub invariant-loop : goal.invariant-loop
invariant-loop l = Doubling l.rows l.texts l.depth l.i l.count l.k (l.count - l.counter)

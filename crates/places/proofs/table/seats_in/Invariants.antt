use mathlib.Core.Path.{◌≡◌}
use Prim.Native.Nat.{◌≤◌}
use Rattle.places.specs.Inner.{seats_on}
use Rattle.places.proofs.table.seats_in.Given as goal

abbrev pub invariant-loop-k : goal.invariant-loop-k
invariant-loop-k l = (l.k ≤ l.s.count) × (l.n ≤ l.k) × (l.n ≡ seats_on l.s l.presence l.i l.k)

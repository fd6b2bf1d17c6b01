use Prim.Native.Nat.{◌≤◌}
use Rattle.spread.specs.Inner.{cell_at, place_at, Strewn}
use Rattle.spread.proofs.put_column.Given as goal

abbrev pub invariant-loop-t : goal.invariant-loop-t
invariant-loop-t l = (l.t ≤ 8) × Strewn l.initial.out l.out (place_at l.places l.i l.off) (cell_at l.cells l.first) l.t

-- `events::rows::put_range` meets its contract: what is left to write are the rows from j on.
use Prim.Native.Nat.{◌≤◌}
use Rattle.wire.proofs.Writers.{Left}
use Rattle.events.specs.Inner.{range_bytes}
use Rattle.events.proofs.rows.put_range.Given as goal

abbrev pub invariant-loop-j : goal.invariant-loop-j
invariant-loop-j l = (l.j ≤ l.b) × Left l.initial.out l.at (range_bytes l.m l.cells l.id l.a l.b) l.out l.p (range_bytes l.m l.cells l.id l.j l.b)

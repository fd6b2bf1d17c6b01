use Prim.Native.Nat.{◌-◌, ◌≤◌}
use Rattle.wire.specs.Wire.{ranged}
use Rattle.wire.proofs.Writers.{Left}
use Rattle.rows_run.specs.Inner.{plain_row}
use Rattle.rows_run.proofs.fill.put_plain.Given as goal

abbrev pub invariant-loop-i : goal.invariant-loop-i
invariant-loop-i l =
    (l.i ≤ l.b) × Left l.initial.out 0 (ranged (plain_row l.cells l.first l.rows l.n) l.a (l.b - l.a)) l.out l.p (ranged (plain_row l.cells l.first l.rows l.n) l.i (l.b - l.i))

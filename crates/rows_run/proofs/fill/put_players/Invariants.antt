use Prim.Native.Nat.{◌-◌, ◌≤◌}
use Rattle.wire.specs.Wire.{ranged}
use Rattle.wire.proofs.Writers.{Left}
use Rattle.rows_run.specs.Inner.{player_row}
use Rattle.rows_run.proofs.fill.put_players.Given as goal

abbrev pub invariant-loop-i : goal.invariant-loop-i
invariant-loop-i l =
    (l.i ≤ l.b) × Left l.initial.out 0 (ranged (player_row l.cells l.presence l.first l.rows l.n l.at l.len) l.a (l.b - l.a)) l.out l.p (ranged (player_row l.cells l.presence l.first l.rows l.n l.at l.len) l.i (l.b - l.i))

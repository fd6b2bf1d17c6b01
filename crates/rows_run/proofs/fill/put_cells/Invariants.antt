-- `rows_run::fill::put_cells` meets its contract: the cells that are left are those from the k-th on.
use mathlib.Core.List.{[], ◌∷◌}
use Prim.Native.Nat.{◌+◌, ◌*◌, ◌-◌, ◌≤◌}
use lib.ListN.{get_or}
use Rattle.wire.specs.Wire.{ranged}
use Rattle.wire.proofs.Writers.{Left}
use Rattle.rows_run.specs.Inner.{strided}
use Rattle.rows_run.proofs.fill.put_cells.Given as goal

abbrev pub invariant-loop-k : goal.invariant-loop-k
invariant-loop-k l =
    (l.k ≤ l.n) × Left l.initial.out l.at (strided l.cells l.first l.step l.n) l.out (l.at + l.k) (ranged (λ j. get_or l.cells (l.first + j * l.step) 0 ∷ []) l.k (l.n - l.k))

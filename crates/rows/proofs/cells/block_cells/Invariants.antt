-- The loop's invariant: the cells of the columns passed are in place.
use mathlib.Core.Path.{◌≡◌}
use Prim.Native.Nat.{ℕ, ◌+◌, ◌*◌, ◌≤◌}
use lib.ListN.{get_or}
use Rattle.rows.specs.Cells.{first_cells}
use Rattle.rows.proofs.cells.block_cells.Given as goal

abbrev pub invariant-loop-k : goal.invariant-loop-k
invariant-loop-k l =
    (l.k ≤ l.columns) × (l.raw ≡ first_cells (λ (j : ℕ). get_or l.cells ((l.first + j) * l.rows + l.row) 0) l.k)

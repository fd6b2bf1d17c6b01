-- The invariant: the answer is that of the runs to come.
use mathlib.Core.Path.{◌≡◌}
use Prim.Native.Nat.{◌+◌, ◌*◌, ◌≤◌}
use lib.ListN.{length, drop}
use Rattle.frames.specs.Judge.{columns_exceed}
use Rattle.frames.specs.Inner.{run_widths}
use Rattle.frames.proofs.CellLaws.{runs_from}
use Rattle.frames.proofs.stores.block_exceeds.Given as goal

abbrev pub invariant-loop-k : goal.invariant-loop-k
invariant-loop-k l =
    (l.k ≤ l.runs.count)
    × (l.runs.count ≤ 32)
    × (l.from + length (runs_from l.runs l.k) * l.rows ≤ length l.cells)
    × (columns_exceed (run_widths l.runs) l.rows (drop l.at l.cells) ≡ columns_exceed (runs_from l.runs l.k) l.rows (drop l.from l.cells))

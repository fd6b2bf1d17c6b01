-- The invariant: the answer is that of the blocks to come.
use mathlib.Core.Path.{◌≡◌}
use Prim.Native.Nat.{◌+◌, ◌*◌, ◌-◌, ◌≤◌}
use lib.ListN.{length, drop}
use Rattle.frames.specs.Judge.{blocks_exceed}
use Rattle.frames.specs.Inner.{run_widths}
use Rattle.frames.proofs.stores.blocks_exceed.Given as goal

abbrev pub invariant-loop : goal.invariant-loop
invariant-loop l =
    (l.counter ≤ l.blocks)
    × (l.at + (l.blocks - l.counter) * (length (run_widths l.runs) * l.rows) ≤ length l.cells)
    × (blocks_exceed l.blocks (run_widths l.runs) l.rows l.cells ≡ blocks_exceed (l.blocks - l.counter) (run_widths l.runs) l.rows (drop l.at l.cells))

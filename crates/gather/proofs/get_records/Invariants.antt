-- The invariant: reading the columns that are left, of all eight rows, gives what reading all gave.
use mathlib.Core.Path.{◌≡◌}
use Prim.Native.Nat.{◌+◌, ◌≤◌}
use lib.ListN.{length, drop}
use Rattle.layout.specs.Columns.{sum}
use Rattle.record.specs.Inner.{InStore}
use Rattle.gather.specs.Inner.{rows_at}
use Rattle.gather.proofs.get_records.Given as goal

abbrev pub invariant-loop-width : goal.invariant-loop-width
invariant-loop-width l =
    (4 ≤ l.p)
    × (length l.cells ≡ length l.initial.cells)
    × (l.p + sum (drop l.width-index l.widths) ≡ l.off + sum l.widths)
    × InStore (drop l.width-index l.widths) (length l.cells) l.stride (l.x + 7)
    × (rows_at (drop l.width-index l.widths) l.file l.at 0 l.p 8 l.cells l.stride l.x ≡ rows_at l.widths l.file l.at 0 l.off 8 l.initial.cells l.stride l.first)

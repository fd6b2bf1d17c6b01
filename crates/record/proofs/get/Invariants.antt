-- The invariant: filling the rest from what is left gives what filling all gave.
use mathlib.Core.Path.{◌≡◌}
use Prim.Native.Nat.{◌+◌, ◌≤◌}
use lib.ListN.{length, drop}
use Rattle.layout.specs.Columns.{sum}
use Rattle.record.specs.Record.{read_back}
use Rattle.record.specs.Inner.{InStore}
use Rattle.record.proofs.get.Given as goal

abbrev pub invariant-loop-width : goal.invariant-loop-width
invariant-loop-width l =
    (4 ≤ l.p)
    × (length l.cells ≡ length l.initial.cells)
    × (l.p + sum (drop l.width-index l.widths) ≡ l.at + sum l.widths)
    × InStore (drop l.width-index l.widths) (length l.cells) l.stride l.i
    × (read_back (drop l.width-index l.widths) (drop l.p l.payload) l.cells l.stride l.i ≡ read_back l.widths (drop l.at l.payload) l.initial.cells l.stride l.first)

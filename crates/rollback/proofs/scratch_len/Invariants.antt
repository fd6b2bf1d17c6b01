-- The loop's invariant: the most so far, or what the ids still to come need, is the whole need.
use mathlib.Core.Path.{◌≡◌}
use Prim.Native.Nat.{◌≤◌, max}
use lib.ListN.{drop}
use Rattle.rollback.specs.Mask.{needed}
use Rattle.rollback.proofs.scratch_len.Given as goal

abbrev pub invariant-loop-cell : goal.invariant-loop-cell
invariant-loop-cell l = (max l.most (needed (drop l.cell-index l.ids)) ≡ needed l.ids) × (l.most ≤ 1048577)

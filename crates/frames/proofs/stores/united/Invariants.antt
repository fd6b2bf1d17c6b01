-- The invariant: the bits of the cells passed, and the cells to come, tell of all.
use mathlib.Core.List.{map}
use Prim.Native.Nat.{ℕ, ◌-◌, ◌^◌, ◌≤◌}
use lib.Dec.{leb}
use Rattle.wire.specs.Wire.{part}
use Rattle.format.specs.Refusal.{one_of}
use Rattle.frames.proofs.CellLaws.{United}
use Rattle.frames.proofs.stores.united.Given as goal

abbrev pub invariant-loop-i : goal.invariant-loop-i
invariant-loop-i l =
    (l.at ≤ l.i) × (l.i ≤ l.end) × ((k : ℕ) → United l.cells l.end l.all l.i (one_of (map (leb (2 ^ k)) (part l.cells l.at (l.end - l.at)))) k)

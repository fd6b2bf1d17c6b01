-- The invariant: one was found, or is among the offsets to come.
use mathlib.Core.Path.{◌≡◌}
use mathlib.Core.Bool.{◌||◌}
use Prim.Native.Nat.{◌-◌, ◌≤◌}
use lib.ListN.{drop}
use Rattle.frames.specs.Judge.{falls}
use Rattle.frames.proofs.offsets.one_falls.Given as goal

abbrev pub invariant-loop-i : goal.invariant-loop-i
invariant-loop-i l = (1 ≤ l.i) × ((l.found || falls (drop (l.i - 1) l.os)) ≡ falls l.os)

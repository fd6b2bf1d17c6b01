-- The invariant: the runs so far stand for the first k widths.
use mathlib.Core.Path.{◌≡◌}
use Prim.Native.Nat.{◌-◌, ◌≤◌}
use lib.ListN.{length, take}
use Rattle.layout.specs.Inner.{expand}
use Rattle.layout.proofs.listing.runs_of.Given as goal

abbrev pub invariant-loop-k : goal.invariant-loop-k
invariant-loop-k l =
    (l.runs ≤ l.k) × (l.k ≤ l.n) × (length l.widths ≡ 32) × (length l.lengths ≡ 32) × (expand (take l.runs l.widths) (take l.runs l.lengths) ≡ take l.k l.all)

abbrev pub decreases-loop-k : goal.decreases-loop-k
decreases-loop-k l = l.n - l.k

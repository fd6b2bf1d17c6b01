-- The invariant: the ids of the rows from k on are marked, and n is the sum over those of them that are not final.
use mathlib.Core.Path.{◌≡◌}
use mathlib.Core.Bool.{cond}
use Prim.Native.Nat.{◌-◌, ◌≤◌}
use lib.ListN.{length}
use Rattle.wire.proofs.Sums.{summed}
use Rattle.game.specs.Held.{offsets_in}
use Rattle.final_rows.specs.Inner.{length_of, lost_here}
use Rattle.final_rows.proofs.Marks.{Seen}
use Rattle.final_rows.proofs.windows.window_len.Given as goal

abbrev pub invariant-loop-k : goal.invariant-loop-k
invariant-loop-k l =
    (l.k ≤ length l.ids)
    × Seen l.ids l.base l.k l.marks
    × (l.n ≡ summed (λ i. cond (lost_here l.ids l.base i) (length_of l.f (offsets_in l.offsets) l.presence i) 0) l.k (length l.ids - l.k))

-- The invariant: the ids of the rows from k on are marked, and those of these rows that are not final have 1.
use Rattle.final_rows.proofs.Marks.{Seen}
use Prim.Native.Nat.{◌≤◌}
use lib.ListN.{length}
use Rattle.final_rows.specs.Inner.{Lost}
use Rattle.final_rows.proofs.windows.window_mask.Given as goal

abbrev pub invariant-loop-k : goal.invariant-loop-k
invariant-loop-k l = (l.k ≤ length l.ids) × Seen l.ids l.base l.k l.marks × Lost l.ids l.base l.k l.initial.mask l.mask

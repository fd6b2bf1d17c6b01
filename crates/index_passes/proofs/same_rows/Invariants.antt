-- The invariant: what is left to compare.
use Prim.Native.Nat.{◌-◌}
use mathlib.Core.Path.{sym, ◌∙◌}
use native.Mathlib.Omega.{arith}
use Rattle.index_passes.proofs.Laws.{Comparing, comparing_start, comparing_past, comparing_other, starts_none, none_16, none_17, none_left, frame_near, frame_wide, frame_fit, frame_bytes_lem, frame_count, rows_yes, rows_no}
use Rattle.index_passes.proofs.same_rows.Given as goal

abbrev pub invariant-loop-place : goal.invariant-loop-place
invariant-loop-place l = Comparing l.file l.spans l.first l.stop l.index l.at l.p l.place

abbrev pub decreases-loop-place : goal.decreases-loop-place
decreases-loop-place l = l.stop - l.place

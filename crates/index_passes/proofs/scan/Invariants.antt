-- The invariant: what was counted, and what is left.
use Prim.Native.Nat.{◌-◌}
use native.Mathlib.Omega.{arith}
use Rattle.index_passes.proofs.Laws.{Going, going_start, going_past, as_present, scan_unlisted, scan_overrun, scan_cut, going_frame, going_other, scan_done}
use Rattle.index_passes.proofs.scan.Given as goal

abbrev pub invariant-loop-place : goal.invariant-loop-place
invariant-loop-place l = Going l.file l.first l.stop l.place l.frames l.last

abbrev pub decreases-loop-place : goal.decreases-loop-place
decreases-loop-place l = l.stop - l.place

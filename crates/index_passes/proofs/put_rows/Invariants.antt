-- The invariant: what is left to write.
use Prim.Native.Nat.{◌-◌}
use native.Mathlib.Omega.{arith}
use Rattle.wire.proofs.Writers.{left_step, left_room, left_done}
use Rattle.index_passes.proofs.Laws.{Putting, putting_start, putting_past, putting_other, none_16, none_17, none_left, frame_near, frame_wide, frame_fit, frame_bytes_lem}
use Rattle.index_passes.proofs.put_rows.Given as goal

abbrev pub invariant-loop-place : goal.invariant-loop-place
invariant-loop-place l = Putting l.file l.spans l.first l.stop l.initial.out l.at l.out l.p l.place

abbrev pub decreases-loop-place : goal.decreases-loop-place
decreases-loop-place l = l.stop - l.place

-- The invariant: the mask is right for the ids of the windows passed.
use Prim.Native.Nat.{◌*◌}
use Rattle.final_rows.proofs.Marks.{Swept}
use Rattle.final_rows.proofs.windows.mask_rows.Given as goal

abbrev pub invariant-loop-w : goal.invariant-loop-w
invariant-loop-w l = Swept l.ids (l.w * 32768) l.mask

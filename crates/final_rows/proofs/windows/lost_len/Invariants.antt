-- The invariant: n is the sum over the rows that are not final and whose ids are in the windows passed.
use mathlib.Core.Path.{◌≡◌}
use Prim.Native.Nat.{◌*◌}
use lib.ListN.{length, get_or}
use Rattle.game.specs.Held.{offsets_in}
use Rattle.rollback.specs.Mask.{place}
use Rattle.final_rows.specs.Inner.{length_of, is_lost}
use Rattle.final_rows.proofs.Sums.{up_to}
use Rattle.final_rows.proofs.windows.lost_len.Given as goal

abbrev pub invariant-loop-w : goal.invariant-loop-w
invariant-loop-w l =
    l.n ≡ up_to (λ i. place (get_or l.ids i 0)) (is_lost l.ids) (length_of l.f (offsets_in l.offsets) l.presence) (length l.ids) (l.w * 32768)

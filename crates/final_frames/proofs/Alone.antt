-- Rows that stand alone: the mask of the final frames' ids is all 0, and frames whose mask is all 0 are final as they are.
-- Assumes nothing.
use mathlib.Core.Path.{◌≡◌, sym, ap, ◌∙◌}
use mathlib.Core.Bool.{Bool, true, false}
use mathlib.Core.List.{List, [], ◌∷◌}
use Prim.Native.Nat.{ℕ, zero, suc, ◌<◌}
use native.Mathlib.Omega.{arith}
use lib.Dec.{eqb}
use lib.ListN.{length, get_or, drop, replicate, length-map, length-replicate, get_or-replicate}
use Rattle.format.specs.Mark.{mark_if}
use Rattle.wire.specs.Wire.{ranged, keep}
use Rattle.wire.proofs.Laws.{ranged_same, tabulated}
use Rattle.game.specs.Stores.{Lent}
use Rattle.game.specs.declared.frames.Frames.{Frames}
use Rattle.events.specs.Events.{frame_events, frames_events}
use Rattle.rollback.specs.Mask.{occurs, repeats, mask_of}
use Rattle.rollback.specs.declared.frame.Rollbacks.TheVariants.{ExceptLast}
use Rattle.final_frames.specs.Rows.{frames_at, lent_at}
use Rattle.final_frames.specs.Final.{kept_rows, final_frames, final_lent}
use Rattle.final_frames.proofs.Final.{is_kept, final_events}
use Rattle.final_frames.proofs.Once.{NoneTwice, ids_once}

-- no row is rolled back
abbrev pub Clear : List ℕ → Type 0
Clear ids = mask_of ExceptLast ids ≡ replicate (length ids) 0

alone : (xs : List ℕ) → NoneTwice xs → (i : ℕ) → i < length xs → occurs (get_or xs i 0) (drop (suc i) xs) ≡ false
unfolding NoneTwice
alone [] n i h = absurd (omega arith)
alone (x ∷ xs) n zero h = n.0
alone (x ∷ xs) n (suc i) h = alone xs n.1 i (omega arith)

once_clear : (ids : List ℕ) → NoneTwice ids → Clear ids
unfolding mask_of
once_clear ids n =
    sym (tabulated 0 (replicate (length ids) 0) (length ids) (repeats ExceptLast ids) (length-replicate (length ids) 0)
    (λ i l. get_or-replicate (length ids) i 0 0 l ∙ sym (ap mark_if (alone ids n i l))))

-- of the final frames none is
pub final_clear : (f : Frames) (s : Lent) → Clear (final_lent f s).cells.ids
final_clear f s = once_clear (final_lent f s).cells.ids (ids_once f s)

pub final_counted : (f : Frames) (s : Lent) → length (final_lent f s).cells.ids ≡ (final_frames f s).counts.frames
unfolding frames_at lent_at
final_counted f s = length-map (kept_rows s.cells.ids) (λ i. get_or s.cells.ids i 0)

all_kept : {A : Type 0} (b : Bool) (xs : List A) → b ≡ true → keep b xs ≡ xs
unfolding keep
all_kept b xs e = rw e

-- and where none is, all frames are final
pub own_frames : (f : Frames) (s : Lent) → length s.cells.ids ≡ f.counts.frames → Clear s.cells.ids
    → frames_events (final_frames f s) (final_lent f s) ≡ frames_events f s
unfolding frames_events
own_frames f s n clear =
    let ids = s.cells.ids in
    final_events f s
    ∙ ranged_same (λ i. keep (is_kept ids i) (frame_events f s i)) (frame_events f s) 0 (length ids)
    (λ i l m. all_kept (is_kept ids i) (frame_events f s i) (ap (λ (x : ℕ). eqb x 0) (ap (λ (l : List ℕ). get_or l i 0) clear ∙ get_or-replicate (length ids) i 0 0 (omega arith))))
    ∙ ap (ranged (frame_events f s) 0) n

-- Rollback masks: which frames repeat the id of an earlier or of a later one. A frame's id is an i32, whose bits stand in a cell.
-- Assumes nothing.
use Rattle.std.specs.Prelude.{ℕ, zero, suc, max, ◌≡◌, Bool, true, false, not, ◌&&◌, ◌||◌, cond, List, [], ◌∷◌, ◌++◌, map, Result, Ok, Err, ltb, eqb, length, get_or, take, drop}
use Rattle.std.specs.Int.{w32}
use Rattle.std.proofs.Common.{to_z}
use Rattle.format.specs.Mark.{mark_if}
use Rattle.wire.specs.Wire.{tabulate}
use Rattle.format.specs.FrameId.{in_range, place_of}
use Rattle.format.specs.Refusal as tested
use Rattle.format.specs.Refusal.{refuse, lowest}
use Rattle.format.specs.Refused.{number_of}
use Rattle.format.specs.declared.refusal.Refusal.{Refusal}
use Rattle.rollback.specs.declared.frame.Rollbacks.{Rollbacks}
use Rattle.rollback.specs.declared.frame.Rollbacks.TheVariants.{ExceptFirst, ExceptLast}

-- x stands among these
unfoldable pub occurs : ℕ → List ℕ → Bool
occurs x [] = false
occurs x (y ∷ ys) = eqb x y || occurs x ys

-- ---- the mask

-- the frames before frame i, where the first of an id is kept; those after it, where the last is
abbrev pub others : Rollbacks → List ℕ → ℕ → List ℕ
others ExceptFirst ids i = take i ids
others ExceptLast ids i = drop (suc i) ids

-- 1 where the id of frame i occurs among those, and 0 at its first, or last, occurrence
abbrev pub repeats : Rollbacks → List ℕ → ℕ → ℕ
repeats keep ids i = mark_if (occurs (get_or ids i 0) (others keep ids i))

-- one byte a frame
unfoldable pub mask_of : Rollbacks → List ℕ → List ℕ
mask_of keep ids = tabulate (length ids) (repeats keep ids)

-- ---- the scratch

-- how far the id of a cell stands from the first
abbrev pub place : ℕ → ℕ
place cell = place_of (to_z w32 cell)

-- how many bytes it needs: the largest id and 124, 0 for no frames
unfoldable pub needed : List ℕ → ℕ
needed [] = 0
needed (cell ∷ cells) = max (suc (place cell)) (needed cells)

-- n bytes, one for each id from the first on: 1 where that id occurs, else 0
unfoldable pub scratch_of : List ℕ → ℕ → List ℕ
scratch_of ids n = tabulate n (λ p. mark_if (occurs p (map place ids)))

-- ---- the answer

-- every id is from -123 to 1,048,452
unfoldable pub all_in_range : List ℕ → Bool
all_in_range [] = true
all_in_range (cell ∷ cells) = in_range (to_z w32 cell) && all_in_range cells

-- the refusals of a mask of m bytes and a scratch of s, in the order in which they are judged: the scratch once all ids are in range
abbrev pub mask_refusals : List ℕ → ℕ → ℕ → List tested.Refusal
mask_refusals ids m s =
    refuse 2 (ltb 1048576 (length ids))
    ∷ refuse 12 (ltb m (length ids))
    ∷ refuse 13 (not (all_in_range ids))
    ∷ refuse 12 (ltb s (needed ids))
    ∷ []

-- an answer in numbers: 0 for a mask that is written, 1 for a refusal; the refusal's number; the frames that are written
pub record MaskNumbers : Type 0 where
  pub kind : ℕ
  pub number : ℕ
  pub frames : ℕ

abbrev pub mask_numbers : Result ℕ Refusal → MaskNumbers
mask_numbers (Ok frames) = record { kind = 0; number = 0; frames = frames }
mask_numbers (Err r) = record { kind = 1; number = number_of r; frames = 0 }

-- the answer with a refusal's number: 0 is none, and so many frames are written
abbrev pub masked_of : ℕ → ℕ → MaskNumbers
masked_of zero frames = record { kind = 0; number = 0; frames = frames }
masked_of (suc n) frames = record { kind = 1; number = suc n; frames = 0 }

-- the answer to ids, with a mask of m bytes and a scratch of s
unfoldable pub answer_of : List ℕ → ℕ → ℕ → MaskNumbers
answer_of ids m s = masked_of (lowest (mask_refusals ids m s)) (length ids)

-- ---- the lent bytes afterwards: those of an accepted call, with all bytes beyond as they were; all as they were on a refusal

abbrev pub mask_after : MaskNumbers → Rollbacks → List ℕ → List ℕ → List ℕ
mask_after answer keep ids old = cond (eqb answer.kind 0) (mask_of keep ids ++ drop (length ids) old) old

abbrev pub scratch_after : MaskNumbers → List ℕ → List ℕ → List ℕ
scratch_after answer ids old = cond (eqb answer.kind 0) (scratch_of ids (needed ids) ++ drop (needed ids) old) old

-- what a call makes of ids, mask and scratch: its answer, and what stands in the mask and in the scratch afterwards
pub record RollbackOutcome (ids : List ℕ) (keep : Rollbacks) (mask scratch : List ℕ) (answer : Result ℕ Refusal) (mask-after scratch-after : List ℕ) : Type 0 where
  pub answer_is : mask_numbers answer ≡ answer_of ids (length mask) (length scratch)
  pub mask_is : mask-after ≡ mask_after (mask_numbers answer) keep ids mask
  pub scratch_is : scratch-after ≡ scratch_after (mask_numbers answer) ids scratch

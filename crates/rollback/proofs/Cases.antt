-- Ids -123 -122 -122 -121 in both modes, the order of the refusals, and the bytes of scratch that an id takes.
-- Assumes nothing.
use mathlib.Core.Path.{◌≡◌, refl, ap}
use mathlib.Core.List.{List, [], ◌∷◌, map}
use Prim.Native.Nat.{ℕ, suc, ◌-◌, ◌≤◌, ◌<◌}
use native.Mathlib.Omega.{arith}
use borrow.Author.Tests.{le-ltb}
use lib.IntN.{ℤ, pos, negsuc, ◌+ℤ◌}
use lib.ListN.{replicate, length-replicate}
use Rattle.std.specs.Prelude.{Ok, Err}
use Rattle.wire.specs.Wire.{tabulate}
use Rattle.format.specs.FrameId.{place_of}
use Rattle.format.specs.Refusal.{lowest}
use Rattle.rollback.specs.Mask.{occurs, mask_of, needed, scratch_of, all_in_range, answer_of, RollbackOutcome}
use Rattle.rollback.specs.declared.frame.Rollbacks.TheVariants.{ExceptFirst, ExceptLast}
use Rattle.format.specs.declared.refusal.Refusal.TheVariants.{TooMany, ShortOutput}
use Rattle.rollback.proofs.Places.{pos_place, neg_place}
use Rattle.rollback.proofs.Outcomes.{too_many_lem, mask_short}

-- -123 -122 -122 -121
ids : List ℕ
ids = 0xffff_ff85 ∷ 0xffff_ff86 ∷ 0xffff_ff86 ∷ 0xffff_ff87 ∷ []

-- case 10, with the scratch, and with a byte beyond the mask and one beyond the scratch, which stay
case_10_first : RollbackOutcome ids ExceptFirst (9 ∷ 9 ∷ 9 ∷ 9 ∷ 9 ∷ []) (9 ∷ 9 ∷ 9 ∷ 9 ∷ []) (Ok 4) (0 ∷ 0 ∷ 1 ∷ 0 ∷ 9 ∷ []) (1 ∷ 1 ∷ 1 ∷ 9 ∷ [])
unfolding ids tabulate place_of occurs mask_of needed scratch_of all_in_range lowest answer_of
case_10_first = record { answer_is = refl; mask_is = refl; scratch_is = refl }

case_10_last : RollbackOutcome ids ExceptLast (9 ∷ 9 ∷ 9 ∷ 9 ∷ 9 ∷ []) (9 ∷ 9 ∷ 9 ∷ 9 ∷ []) (Ok 4) (0 ∷ 1 ∷ 0 ∷ 0 ∷ 9 ∷ []) (1 ∷ 1 ∷ 1 ∷ 9 ∷ [])
unfolding ids tabulate place_of occurs mask_of needed scratch_of all_in_range lowest answer_of
case_10_last = record { answer_is = refl; mask_is = refl; scratch_is = refl }

-- ---- the refusals, in their order

-- ids, the bytes of a mask and of a scratch, and the number of the answer
record Row : Type 0 where
  cells : List ℕ
  m : ℕ
  s : ℕ
  number : ℕ

row : List ℕ → ℕ → ℕ → ℕ → Row
row cells m s number = record { cells = cells; m = m; s = s; number = number }

-- -124, -123, 1,048,452 and 1,048,453
low : ℕ
low = 0xffff_ff84

first : ℕ
first = 0xffff_ff85

last : ℕ
last = 1048452

high : ℕ
high = 1048453

-- a short mask is judged before the ids, and the ids before a short scratch
table : List Row
table =
    row (low ∷ []) 0 0 12
    ∷ row (low ∷ []) 1 0 13
    ∷ row (high ∷ []) 1 0 13
    ∷ row (first ∷ low ∷ []) 2 0 13
    ∷ row (first ∷ []) 1 0 12
    ∷ row (first ∷ []) 1 1 0
    ∷ row (last ∷ []) 1 1048575 12
    ∷ row (last ∷ []) 1 1048576 0
    ∷ row [] 0 0 0
    ∷ []

order : map (λ (r : Row). (answer_of r.cells r.m r.s).number) table ≡ map (λ (r : Row). r.number) table
unfolding row low first last high table place_of needed all_in_range lowest answer_of
order = refl

-- more than 1,048,576 frames are judged before the mask, and no fewer are too many
too_many_frames : (n : ℕ) → 1048576 < n → RollbackOutcome (replicate n low) ExceptFirst [] [] (Err TooMany) [] []
too_many_frames n h = too_many_lem (omega (arith, length-replicate n low))

few_frames : (n : ℕ) → 0 < n → n ≤ 1048576 → RollbackOutcome (replicate n low) ExceptFirst [] [] (Err ShortOutput) [] []
few_frames n h l = mask_short (omega (arith, length-replicate n low)) (omega (arith, length-replicate n low))

-- ---- the scratch

-- an id in range takes the id and 124 bytes
id_and_124 : (id : ℤ) → place_of id < 1048576 → pos (suc (place_of id)) ≡ id +ℤ pos 124
id_and_124 (pos n) h = ap pos (omega (arith, pos_place n h))
id_and_124 (negsuc n) h =
    let e = neg_place n h in
    let q : suc (place_of (negsuc n)) ≡ 124 - suc n = omega arith in
    rw (le-ltb 124 (suc n) (omega arith)) (ap pos q)

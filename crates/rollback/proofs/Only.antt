-- Equal numbers are equal answers, and no second outcome: what a call answers and what it leaves in the lent bytes follow from its inputs, on a refusal too.
-- Assumes nothing.
use mathlib.Core.Path.{◌≡◌, refl, ap, ◌∙◌, sym}
use mathlib.Core.Bool.{Bool, true, false, cond, not}
use mathlib.Core.List.{List, [], ◌∷◌}
use Prim.Native.Nat.{ℕ}
use native.Mathlib.Omega.{arith}
use lib.Dec.{ltb}
use lib.ListN.{length}
use Rattle.std.specs.Prelude.{Result, Ok, Err}
use Rattle.format.specs.Refusal.{refuse, lowest}
use Rattle.format.specs.declared.refusal.Refusal.{Refusal}
use Rattle.format.specs.declared.refusal.Refusal.TheVariants.{TooMany, ShortOutput, OutOfRange}
use Rattle.format.proofs.Numbers.{same_refusal}
use Rattle.rollback.specs.Mask.{needed, all_in_range, MaskNumbers, masked_of, mask_numbers, answer_of, mask_after, scratch_after, RollbackOutcome}
use Rattle.rollback.specs.declared.frame.Rollbacks.{Rollbacks}

-- answers with the same numbers are equal
pub same_answer : (r r' : Result ℕ Refusal) → mask_numbers r ≡ mask_numbers r' → r ≡ r'
same_answer (Ok n) (Ok n') e = ap Ok (ap (λ (m : MaskNumbers). m.frames) e)
same_answer (Err r) (Err r') e = ap Err (same_refusal r r' (ap (λ (m : MaskNumbers). m.number) e))
same_answer (Ok n) (Err r) e = let k : ◌≡◌ {A = ℕ} 0 1 = ap (λ (m : MaskNumbers). m.kind) e in absurd (omega arith)
same_answer (Err r) (Ok n) e = let k : ◌≡◌ {A = ℕ} 1 0 = ap (λ (m : MaskNumbers). m.kind) e in absurd (omega arith)

module _ {ids : List ℕ} {keep : Rollbacks} {mask scratch : List ℕ} where
  -- an outcome's answer is the definition's
  pub answer_of_lem : {r : Result ℕ Refusal} {m s : List ℕ} → RollbackOutcome ids keep mask scratch r m s → mask_numbers r ≡ answer_of ids (length mask) (length scratch)
  answer_of_lem p = p.answer_is

  -- two outcomes of one input are equal
  pub only : {r r' : Result ℕ Refusal} {m m' s s' : List ℕ} → RollbackOutcome ids keep mask scratch r m s → RollbackOutcome ids keep mask scratch r' m' s' → (r ≡ r') × (m ≡ m') × (s ≡ s')
  only {r} {r'} p q =
      let e : r ≡ r' = same_answer r r' (answer_of_lem p ∙ sym (answer_of_lem q)) in (
        e,
        p.mask_is ∙ ap (λ (a : Result ℕ Refusal). mask_after (mask_numbers a) keep ids mask) e ∙ sym q.mask_is,
        p.scratch_is ∙ ap (λ (a : Result ℕ Refusal). scratch_after (mask_numbers a) ids scratch) e ∙ sym q.scratch_is,
      )

-- the answer by the four tests, in their order
by_tests : Bool → Bool → Bool → Bool → ℕ → Result ℕ Refusal
by_tests a b c d frames = cond a (Err TooMany) (cond b (Err ShortOutput) (cond c (Err OutOfRange) (cond d (Err ShortOutput) (Ok frames))))

by_numbers : (a b c d : Bool) (frames : ℕ)
    → mask_numbers (by_tests a b c d frames) ≡ masked_of (lowest (refuse 2 a ∷ refuse 12 b ∷ refuse 13 c ∷ refuse 12 d ∷ [])) frames
unfolding by_tests lowest
by_numbers true b c d frames = refl
by_numbers false true c d frames = refl
by_numbers false false true d frames = refl
by_numbers false false false true frames = refl
by_numbers false false false false frames = refl

pub answer : List ℕ → ℕ → ℕ → Result ℕ Refusal
answer ids m s = by_tests (ltb 1048576 (length ids)) (ltb m (length ids)) (not (all_in_range ids)) (ltb s (needed ids)) (length ids)

-- and every input has one
pub some : (ids : List ℕ) (keep : Rollbacks) (mask scratch : List ℕ)
    → let r = answer ids (length mask) (length scratch) in RollbackOutcome ids keep mask scratch r (mask_after (mask_numbers r) keep ids mask) (scratch_after (mask_numbers r) ids scratch)
unfolding answer answer_of
some ids keep mask scratch =
    let a = ltb 1048576 (length ids) in
    let b = ltb (length mask) (length ids) in
    let d = ltb (length scratch) (needed ids) in
    record { answer_is = by_numbers a b (not (all_in_range ids)) d (length ids); mask_is = refl; scratch_is = refl }

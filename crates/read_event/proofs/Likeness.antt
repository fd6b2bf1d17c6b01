-- Laws of bytes a step apart.
-- Assumes nothing.
use Prim.Native.Nat.{ℕ, zero, suc, ◌+◌, ◌*◌, ◌≤◌, ◌<◌}
use mathlib.Core.Path.{◌≡◌, refl, sym, ap, ap₂, ◌∙◌}
use mathlib.Core.Bool.{Bool, true, false}
use mathlib.Core.List.{List}
use native.Mathlib.Nat.{suc-mul, zero-mul, mul-le-mul_right}
use native.Mathlib.Numerals.{add-one}
use native.Mathlib.Omega.{arith}
use borrow.Author.Count.{below_more}
use borrow.Author.Tests.{eqb-true, eqb-false}
use lib.Dec.{eqb}
use lib.ListN.{length, get_or, set, length-set}
use lib.Seq.{get_or-set_same, get_or-set_other}
use Rattle.read_event.specs.Alike.{Same, steps_put}

-- the first n of them are the same
pub record SameTo (file : List ℕ) (step at n : ℕ) : Type 0 where
  pub each : (u : ℕ) → u < n → get_or file (at + u * step) 0 ≡ get_or file at 0

pub place_first : (at step : ℕ) → at ≡ at + 0 * step
place_first at step = omega (arith, zero-mul step)

module _ (at step t p : ℕ) (e : p ≡ at + t * step) where
  pub place_next : p + step ≡ at + (t + 1) * step
  place_next = let s : (t + 1) * step ≡ t * step + step = ap (λ (k : ℕ). k * step) (add-one t) ∙ suc-mul t step in omega arith

  pub place_in : t < 7 → p + step ≤ at + 7 * step
  place_in h = let s : suc t * step ≤ 7 * step = mul-le-mul_right step h in let m = suc-mul t step in omega arith

-- the t-th of eight is not behind the last one
pub step_in_lem : (step t : ℕ) → t < 8 → t * step ≤ 7 * step
step_in_lem step t h = let g : t ≤ 7 = omega arith in mul-le-mul_right step g

pub same_first : {file : List ℕ} {step at : ℕ} → SameTo file step at (0 + 1)
same_first {file} {step} {at} = record {
  each = λ u h. let z : u ≡ 0 = omega arith in ap (λ (x : ℕ). get_or file x 0) (ap (λ (k : ℕ). at + k * step) z ∙ sym (place_first at step));
}

pub same_more : {file : List ℕ} {step at : ℕ} (t j : ℕ) → j ≡ at + (t + 1) * step → get_or file j 0 ≡ get_or file at 0 → SameTo file step at (t + 1) → SameTo file step at (t + 1 + 1)
same_more {file} {step} {at} t j q e h = record {
  each = below_more (λ (u : ℕ). get_or file (at + u * step) 0 ≡ get_or file at 0) (t + 1) h.each (ap (λ (x : ℕ). get_or file x 0) (sym q) ∙ e);
}

pub same_all : {file : List ℕ} {step at t : ℕ} → SameTo file step at (t + 1) → 7 ≤ t → Same file step at
same_all h l u m = h.each u (omega arith)

-- ---- places a step apart

module _ (i at step : ℕ) (xs : List ℕ) where
  pub steps_length : (n : ℕ) → length (steps_put i at step n xs) ≡ length xs
  unfolding steps_put
  steps_length zero = refl
  steps_length (suc n) = length-set (steps_put i at step n xs) (i + n) (at + n * step) ∙ steps_length n

  pub steps_before : (n k : ℕ) → k < i → get_or (steps_put i at step n xs) k 0 ≡ get_or xs k 0
  unfolding steps_put
  steps_before zero k h = refl
  steps_before (suc n) k h = get_or-set_other (steps_put i at step n xs) (i + n) k (at + n * step) 0 (λ y. omega arith) ∙ steps_before n k h

  pub steps_get : (n t : ℕ) → t < n → i + n ≤ length xs → get_or (steps_put i at step n xs) (i + t) 0 ≡ at + t * step
  unfolding steps_put
  steps_get zero t h l = absurd (omega arith)
  steps_get (suc n) t h l = go (eqb t n) refl (λ d. steps_get n t (omega (arith, h, d)) (omega arith))
    where
      go : (b : Bool) → eqb t n ≡ b → ((t ≡ n → ⊥) → get_or (steps_put i at step n xs) (i + t) 0 ≡ at + t * step) → get_or (set (steps_put i at step n xs) (i + n) (at + n * step)) (i + t) 0 ≡ at + t * step
      go true y again =
          let e : t ≡ n = eqb-true t n y in
          ap (λ (k : ℕ). get_or (set (steps_put i at step n xs) (i + n) (at + n * step)) (i + k) 0) e
          ∙ get_or-set_same (steps_put i at step n xs) (i + n) (at + n * step) 0 (omega (arith, steps_length n)) ∙ ap (λ (k : ℕ). at + k * step) (sym e)
      go false y again =
          let d : t ≡ n → ⊥ = eqb-false t n y in
          get_or-set_other (steps_put i at step n xs) (i + n) (i + t) (at + n * step) 0 (λ v. d (omega arith)) ∙ again d

-- the loop that puts them
pub steps_first : (i at step : ℕ) (xs : List ℕ) → xs ≡ steps_put i at step 0 xs
unfolding steps_put
steps_first i at step xs = refl

pub steps_more : (i at step t : ℕ) (xs ys : List ℕ) (p : ℕ) → p ≡ at + t * step → ys ≡ steps_put i at step t xs → set ys (i + t) p ≡ steps_put i at step (t + 1) xs
unfolding steps_put
steps_more i at step t xs ys p e d = rw (add-one t) (ap₂ (λ (l : List ℕ) (k : ℕ). set l (i + t) k) d e)

pub steps_all : (i at step t : ℕ) (xs ys : List ℕ) → t ≡ 8 → ys ≡ steps_put i at step t xs → ys ≡ steps_put i at step 8 xs
steps_all i at step t xs ys e d = d ∙ ap (λ (k : ℕ). steps_put i at step k xs) e

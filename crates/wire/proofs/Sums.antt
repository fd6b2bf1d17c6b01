-- Sums over a range, and their laws.
-- Assumes nothing.
use mathlib.Core.Path.{◌≡◌, refl, sym, ap, ap₂, ◌∙◌}
use mathlib.Core.List.{List}
use Prim.Native.Nat.{ℕ, zero, suc, ◌+◌, ◌-◌, ◌*◌, ◌≤◌, ◌<◌}
use native.Mathlib.Nat.{suc-mul, zero-mul, add-mul, add-zero}
use native.Mathlib.Omega.{arith}
use lib.ListN.{length, get_or, length-append}
use Rattle.wire.specs.Wire.{ranged}

-- g i + g (i + 1) + .., n of them
unfoldable pub summed : (ℕ → ℕ) → ℕ → ℕ → ℕ
summed g i zero = 0
summed g i (suc n) = g i + summed g (i + 1) n

-- the length of a range is the sum of its parts'
pub length_summed : {A : Type 0} (F : ℕ → List A) (i n : ℕ) → length (ranged F i n) ≡ summed (λ j. length (F j)) i n
unfolding ranged summed
length_summed F i zero = refl
length_summed F i (suc n) = length-append (F i) (ranged F (i + 1) n) ∙ ap (λ (k : ℕ). length (F i) + k) (length_summed F (i + 1) n)

pub summed_same : (g h : ℕ → ℕ) (i n : ℕ) → ((j : ℕ) → g j ≡ h j) → summed g i n ≡ summed h i n
unfolding summed
summed_same g h i zero e = refl
summed_same g h i (suc n) e = ap₂ (λ (a b : ℕ). a + b) (e i) (summed_same g h (i + 1) n e)

pub summed_add : (g h : ℕ → ℕ) (i n : ℕ) → summed (λ j. g j + h j) i n ≡ summed g i n + summed h i n
unfolding summed
summed_add g h i zero = refl
summed_add g h i (suc n) = let e = summed_add g h (i + 1) n in omega arith

pub summed_both : (g h : ℕ → ℕ) (i n : ℕ) {a b : ℕ} → summed g i n ≡ a → summed h i n ≡ b → summed (λ j. g j + h j) i n ≡ a + b
summed_both g h i n p q = summed_add g h i n ∙ ap₂ (λ (a b : ℕ). a + b) p q

pub summed_shift : (g : ℕ → ℕ) (i n : ℕ) → summed g (i + 1) n ≡ summed (λ j. g (j + 1)) i n
unfolding summed
summed_shift g i zero = refl
summed_shift g i (suc n) = ap (λ (k : ℕ). g (i + 1) + k) (summed_shift g (i + 1) n)

pub summed_mul : (g : ℕ → ℕ) (c i n : ℕ) → summed (λ j. g j * c) i n ≡ summed g i n * c
unfolding summed
summed_mul g c i zero = sym (zero-mul c)
summed_mul g c i (suc n) = ap (λ (k : ℕ). g i * c + k) (summed_mul g c (i + 1) n) ∙ sym (add-mul (g i) (summed g (i + 1) n) c)

pub summed_const : (c i n : ℕ) → summed (λ j. c) i n ≡ n * c
unfolding summed
summed_const c i zero = sym (zero-mul c)
summed_const c i (suc n) = let e = summed_const c (i + 1) n in let m = suc-mul n c in omega arith

-- what rises from offset to offset is the last less the first
pub summed_rise : (os : List ℕ) (i n : ℕ) → ((j : ℕ) → j < i + n → get_or os j 0 ≤ get_or os (j + 1) 0)
    → summed (λ j. get_or os (j + 1) 0 - get_or os j 0) i n + get_or os i 0 ≡ get_or os (i + n) 0
unfolding summed
summed_rise os i zero h = let e = ap (λ (k : ℕ). get_or os k 0) (add-zero i) in omega arith
summed_rise os i (suc n) h =
    let k : i + 1 + n ≡ i + suc n = omega arith in
    let e = summed_rise os (i + 1) n (λ j l. h j (omega arith)) in
    let up = h i (omega arith) in
    let same = ap (λ (j : ℕ). get_or os j 0) k in
    omega arith

-- Lists whose elements all have a property.
-- Assumes nothing.
use mathlib.Core.Path.{◌≡◌, refl}
use mathlib.Core.Bool.{Bool, true, false}
use mathlib.Core.List.{List, [], ◌∷◌, ◌++◌}
use Prim.Native.Nat.{ℕ, zero, suc, ◌+◌, ◌≤◌, ◌<◌}
use native.Mathlib.Omega.{arith}
use lib.ListN.{length, get_or, drop}
use Rattle.wire.specs.Wire.{ranged, keep}
use Rattle.grammar.specs.WellFormed.{Each}

module _ {A : Type 0} (P : A → Type 0) where
  pub each_both : (xs ys : List A) → Each P xs → Each P ys → Each P (xs ++ ys)
  unfolding Each
  each_both [] ys h k = k
  each_both (x ∷ xs) ys h k = (h.0, each_both xs ys h.1 k)

  pub each_ranged : (f : ℕ → List A) (i n : ℕ) → ((j : ℕ) → i ≤ j → j < i + n → Each P (f j)) → Each P (ranged f i n)
  unfolding Each ranged
  each_ranged f i zero h = tt
  each_ranged f i (suc n) h = each_both (f i) _ (h i (omega arith) (omega arith)) (each_ranged f (i + 1) n (λ j l m. h j (omega arith) (omega arith)))

  pub each_keep : (b : Bool) (xs : List A) → (b ≡ true → Each P xs) → Each P (keep b xs)
  unfolding Each keep
  each_keep true xs h = h refl
  each_keep false xs h = tt

  pub each_none : Each P []
  unfolding Each
  each_none = tt

  pub each_more : (x : A) (xs : List A) → P x → Each P xs → Each P (x ∷ xs)
  unfolding Each
  each_more x xs h k = (h, k)

  pub each_one : (x : A) → P x → Each P (x ∷ [])
  unfolding Each
  each_one x h = (h, tt)

  pub each_from : (d : A) (xs : List A) → ((k : ℕ) → k < length xs → P (get_or xs k d)) → Each P xs
  unfolding Each
  each_from d [] h = tt
  each_from d (x ∷ xs) h = (h 0 (omega arith), each_from d xs (λ k l. h (suc k) (omega arith)))

  pub each_at : (d : A) (xs : List A) → Each P xs → (k : ℕ) → k < length xs → P (get_or xs k d)
  unfolding Each
  each_at d [] h k l = absurd (omega arith)
  each_at d (x ∷ xs) h zero l = h.0
  each_at d (x ∷ xs) h (suc k) l = each_at d xs h.1 k (omega arith)

  pub each_drop : (n : ℕ) (xs : List A) → Each P xs → Each P (drop n xs)
  unfolding Each
  each_drop zero xs h = h
  each_drop (suc n) [] h = tt
  each_drop (suc n) (x ∷ xs) h = each_drop n xs h.1

  pub each_after : (xs ys : List A) → Each P (xs ++ ys) → Each P ys
  unfolding Each
  each_after [] ys h = h
  each_after (x ∷ xs) ys h = each_after xs ys h.1

pub each_so : {A : Type 0} (P Q : A → Type 0) (xs : List A) → ((x : A) → P x → Q x) → Each P xs → Each Q xs
unfolding Each
each_so P Q [] so h = tt
each_so P Q (x ∷ xs) so h = (so x h.0, each_so P Q xs so h.1)

-- Lists in which each element stands to those after it as it may.
-- Assumes nothing.
use mathlib.Core.Path.{◌≡◌, subst}
use mathlib.Core.List.{List, [], ◌∷◌}
use Prim.Native.Nat.{ℕ, zero, suc, ◌+◌, ◌<◌}
use native.Mathlib.Omega.{arith}
use lib.ListN.{length, get_or}
use Rattle.grammar.specs.WellFormed.{Each}
use Rattle.grammar.proofs.Each.{each_from, each_at}

-- each element with each after it
unfoldable pub Pairs : {A : Type 0} → (A → A → Type 0) → List A → Type 0
Pairs R [] = Unit {0}
Pairs R (x ∷ xs) = Each (R x) xs × Pairs R xs

module _ {A : Type 0} (R : A → A → Type 0) where
  pub pairs_from : (d : A) (xs : List A) → ((j k : ℕ) → j < k → k < length xs → R (get_or xs j d) (get_or xs k d)) → Pairs R xs
  unfolding Pairs
  pairs_from d [] h = tt
  pairs_from d (x ∷ xs) h = (each_from (R x) d xs (λ k l. h 0 (suc k) (omega arith) (omega arith)), pairs_from d xs (λ j k l m. h (suc j) (suc k) (omega arith) (omega arith)))

-- each element with the one after it, and otherwise with those after that
unfoldable pub Chain : {A : Type 0} → (A → A → Type 0) → (A → A → Type 0) → List A → Type 0
Chain R S [] = Unit {0}
Chain R S (x ∷ []) = Unit {0}
Chain R S (x ∷ y ∷ ys) = R x y × Each (S x) ys × Chain R S (y ∷ ys)

module _ {A : Type 0} (R S : A → A → Type 0) where
  pub chain_more : ((x y : A) → S x y → R x y) → (x : A) (ys : List A) → Each (S x) ys → Chain R S ys → Chain R S (x ∷ ys)
  unfolding Chain Each
  chain_more so x [] h k = tt
  chain_more so x (y ∷ ys) h k = (so x y h.0, h.1, k)

  pub chain_next : (d : A) (xs : List A) → Chain R S xs → (k : ℕ) → k + 1 < length xs → R (get_or xs k d) (get_or xs (k + 1) d)
  unfolding Chain
  chain_next d [] h k l = absurd (omega arith)
  chain_next d (x ∷ []) h k l = absurd (omega arith)
  chain_next d (x ∷ y ∷ ys) h zero l = h.0
  chain_next d (x ∷ y ∷ ys) h (suc k) l =
      let e : suc (k + 1) ≡ suc k + 1 = omega arith in
      subst (λ (q : ℕ). R (get_or (y ∷ ys) k d) (get_or (x ∷ y ∷ ys) q d)) e (chain_next d (y ∷ ys) h.2 k (omega arith))

  pub chain_far : (d : A) (xs : List A) → Chain R S xs → (j k : ℕ) → j + 1 < k → k < length xs → S (get_or xs j d) (get_or xs k d)
  unfolding Chain
  chain_far d [] h j k l m = absurd (omega arith)
  chain_far d (x ∷ []) h j k l m = absurd (omega arith)
  chain_far d (x ∷ y ∷ ys) h zero zero l m = absurd (omega arith)
  chain_far d (x ∷ y ∷ ys) h zero (suc zero) l m = absurd (omega arith)
  chain_far d (x ∷ y ∷ ys) h zero (suc (suc k)) l m = each_at (S x) d ys h.1 k (omega arith)
  chain_far d (x ∷ y ∷ ys) h (suc j) zero l m = absurd (omega arith)
  chain_far d (x ∷ y ∷ ys) h (suc j) (suc k) l m = chain_far d (y ∷ ys) h.2 j k (omega arith) (omega arith)

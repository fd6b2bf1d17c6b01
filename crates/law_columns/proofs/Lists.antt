-- Lists put together from parts, by index and by element.
-- Assumes nothing.
use mathlib.Core.Path.{◌≡◌, refl, sym, ap, ◌∙◌}
use mathlib.Core.Bool.{Bool, true, false}
use mathlib.Core.List.{List, [], ◌∷◌, ◌++◌, append_assoc, append-nil}
use Prim.Native.Nat.{ℕ, zero, suc, ◌+◌}
use native.Mathlib.Numerals.{add-one}
use lib.ListN.{length, get_or}
use Rattle.format.proofs.Versions.{no_way}
use Rattle.wire.specs.Wire.{ranged, keep}
use Rattle.wire.proofs.Laws.{ranged_same}

-- what is kept
pub kept : {A : Type 0} (b : Bool) (xs : List A) → b ≡ true → keep b xs ≡ xs
unfolding keep
kept true xs e = refl
kept false xs e = no_way e

pub dropped : {A : Type 0} (b : Bool) (xs : List A) → b ≡ false → keep b xs ≡ []
unfolding keep
dropped true xs e = no_way (sym e)
dropped false xs e = refl

pub keep_none : {A : Type 0} (b : Bool) → ◌≡◌ {A = List A} (keep b []) []
unfolding keep
keep_none true = refl
keep_none false = refl

-- what each element gives, one after another
unfoldable pub flat : {A B : Type 0} → (A → List B) → List A → List B
flat g [] = []
flat g (x ∷ xs) = g x ++ flat g xs

module _ {A B : Type 0} (g : A → List B) where
  pub flat_both : (xs ys : List A) → flat g (xs ++ ys) ≡ flat g xs ++ flat g ys
  unfolding flat
  flat_both [] ys = refl
  flat_both (x ∷ xs) ys = ap (λ l. g x ++ l) (flat_both xs ys) ∙ sym (append_assoc (g x) (flat g xs) (flat g ys))

  pub flat_ranged : (h : ℕ → List A) (i n : ℕ) → flat g (ranged h i n) ≡ ranged (λ k. flat g (h k)) i n
  unfolding flat ranged
  flat_ranged h i zero = refl
  flat_ranged h i (suc n) = flat_both (h i) (ranged h (i + 1) n) ∙ ap (λ l. flat g (h i) ++ l) (flat_ranged h (i + 1) n)

  pub flat_keep : (b : Bool) (x : A) → flat g (keep b (x ∷ [])) ≡ keep b (g x)
  unfolding flat keep
  flat_keep true x = append-nil (g x)
  flat_keep false x = refl

pub ranged_shift : {A : Type 0} (f : ℕ → List A) (i n : ℕ) → ranged f (i + 1) n ≡ ranged (λ j. f (j + 1)) i n
unfolding ranged
ranged_shift f i zero = refl
ranged_shift f i (suc n) = ap (λ l. f (i + 1) ++ l) (ranged_shift f (i + 1) n)

-- by index: what the elements of a list give
pub ranged_flat : {A B : Type 0} (g : A → List B) (d : A) (xs : List A) → ranged (λ j. g (get_or xs j d)) 0 (length xs) ≡ flat g xs
unfolding ranged flat
ranged_flat g d [] = refl
ranged_flat g d (x ∷ xs) =
    ap (λ l. g x ++ l)
    (ranged_shift (λ j. g (get_or (x ∷ xs) j d)) 0 (length xs)
    ∙ ranged_same _ _ 0 (length xs) (λ j l m. rw add-one)
    ∙ ranged_flat g d xs)

pub flat_one : {A : Type 0} (xs : List A) → flat (λ x. x ∷ []) xs ≡ xs
unfolding flat
flat_one [] = refl
flat_one (x ∷ xs) = ap (λ l. x ∷ l) (flat_one xs)

-- and the elements themselves
pub ranged_all : {A : Type 0} (d : A) (xs : List A) → ranged (λ j. get_or xs j d ∷ []) 0 (length xs) ≡ xs
ranged_all d xs = ranged_flat (λ x. x ∷ []) d xs ∙ flat_one xs

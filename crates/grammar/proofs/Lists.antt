-- Lists of events in sections, each of one code: where one section ends and the next begins.
-- Assumes nothing.
use mathlib.Core.Path.{◌≡◌, refl, sym, ap, ◌∙◌}
use mathlib.Core.List.{List, [], ◌∷◌, ◌++◌, map, head-eq_of_cons-eq, tail-eq_of_cons-eq, cons≢nil}
use Prim.Native.Nat.{ℕ, ◌^◌, ◌<◌}
use native.Mathlib.Omega.{arith}
use lib.ListN.{length}
use Rattle.wire.specs.Wire.{be, number}
use Rattle.wire.proofs.Laws.{number_be, length_be}
use Rattle.format.specs.File.{Ev}
use Rattle.layout.specs.declared.columns.Family.{Family}
use Rattle.grammar.specs.Productions.{row_event}

-- two parts of one list, cut at one length
pub append_same : {A : Type 0} (s s' t t' : List A) → length s ≡ length s' → s ++ t ≡ s' ++ t' → (s ≡ s') × (t ≡ t')
append_same [] [] t t' e q = (refl, q)
append_same [] (x ∷ s') t t' e q = absurd (omega arith)
append_same (x ∷ s) [] t t' e q = absurd (omega arith)
append_same (x ∷ s) (y ∷ s') t t' e q =
    let r = append_same s s' t t' (omega arith) (tail-eq_of_cons-eq q) in
    let h = head-eq_of_cons-eq q in
    (λ i. h i ∷ r.0 i, r.1)

-- the code of the first event, and 0 where there is none
abbrev pub first : List Ev → ℕ
first [] = 0
first (e ∷ es) = e.code

abbrev pub Not : ℕ → List Ev → Type 0
Not c es = first es ≡ c → ⊥

-- a section of code c, and what begins with another code
module _ {A : Type 0} (c : ℕ) (f g : A → Ev) (is : (a : A) → (f a).code ≡ c) (too : (a : A) → (g a).code ≡ c) where
  pub cut : (xs ys : List A) (t u : List Ev) → Not c t → Not c u → map f xs ++ t ≡ map g ys ++ u → (map f xs ≡ map g ys) × (t ≡ u)
  cut [] [] t u n m q = (refl, q)
  cut [] (y ∷ ys) t u n m q = absurd (n (ap first q ∙ too y))
  cut (x ∷ xs) [] t u n m q = absurd (m (ap first (sym q) ∙ is x))
  cut (x ∷ xs) (y ∷ ys) t u n m q =
      let r = cut xs ys t u n m (tail-eq_of_cons-eq q) in
      let h = head-eq_of_cons-eq q in
      (λ i. h i ∷ r.0 i, r.1)

-- a section does not begin with another code, if what follows it does not
pub other : {A : Type 0} (c : ℕ) (f : A → Ev) (is : (a : A) → (f a).code ≡ c) (d : ℕ) → (c ≡ d → ⊥) → (xs : List A) (t : List Ev) → Not d t → Not d (map f xs ++ t)
other c f is d n [] t h = h
other c f is d n (x ∷ xs) t h = λ e. n (sym (is x) ∙ e)

-- what a row holds
pub row_bytes_lem : (family : Family) (i j : ℕ) (a b : List ℕ) → row_event family i a ≡ row_event family j b → a ≡ b
row_bytes_lem family i j a b e = (append_same (be 4 i) (be 4 j) a b (length_be 4 i ∙ sym (length_be 4 j)) (ap (λ (x : Ev). x.payload) e)).1

pub row_id : (family : Family) (i j : ℕ) (a b : List ℕ) → i < 2 ^ 32 → j < 2 ^ 32 → row_event family i a ≡ row_event family j b → i ≡ j
row_id family i j a b h k e =
    let p = (append_same (be 4 i) (be 4 j) a b (length_be 4 i ∙ sym (length_be 4 j)) (ap (λ (x : Ev). x.payload) e)).0 in
    sym (number_be 4 i h) ∙ ap number p ∙ number_be 4 j k

pub rows_same : (family : Family) (i j : ℕ) (xs ys : List (List ℕ)) → map (row_event family i) xs ≡ map (row_event family j) ys → xs ≡ ys
rows_same family i j [] [] q = refl
rows_same family i j [] (y ∷ ys) q = absurd (cons≢nil (sym q))
rows_same family i j (x ∷ xs) [] q = absurd (cons≢nil q)
rows_same family i j (x ∷ xs) (y ∷ ys) q =
    let h = row_bytes_lem family i j x y (head-eq_of_cons-eq q) in
    let t = rows_same family i j xs ys (tail-eq_of_cons-eq q) in
    λ k. h k ∷ t k

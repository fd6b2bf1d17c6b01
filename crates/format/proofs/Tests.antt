-- The laws of tests, of marks and of `one_of`: one line for each test that a function passes or stops at, in a row or in a loop, and what is known where none holds.
-- Assumes nothing.
use mathlib.Core.Path.{◌≡◌, refl, sym, ap, ◌∙◌}
use mathlib.Core.Bool.{Bool, true, false, not, ◌||◌}
use mathlib.Core.List.{List, [], ◌∷◌, ◌++◌, map}
use Prim.Native.Nat.{ℕ, zero, suc, ◌+◌, ◌≤◌, ◌<◌}
use native.Mathlib.Numerals.{add-one}
use native.Mathlib.Omega.{arith}
use borrow.Author.Tests.{eq-eqb, ne_eqb, eqb-true, not-false}
use lib.Dec.{eqb}
use lib.ListN.{length, get_or, drop, drop_of_length-le}
use lib.Seq.{drop-cons}
use Rattle.format.specs.Mark.{yes}
use Rattle.format.specs.Refusal.{one_of}
use Rattle.format.proofs.Versions.{no_way}

-- a test for another number
pub other : (a b : ℕ) → (a ≡ b → ⊥) → not (eqb a b) ≡ true
other a b h = rw (ne_eqb a b h)

pub same : (a b : ℕ) → a ≡ b → not (eqb a b) ≡ false
same a b e = rw (eq-eqb a b e)

pub same_of : (a b : ℕ) → not (eqb a b) ≡ false → a ≡ b
same_of a b e = eqb-true a b (not-false (eqb a b) e)

-- marks
pub a_mark : (m : ℕ) → (m ≡ 0 → ⊥) → yes m ≡ true
a_mark m h = rw (ne_eqb m 0 h)

pub no_mark : (m : ℕ) → m ≡ 0 → yes m ≡ false
no_mark m e = rw (eq-eqb m 0 e)

-- tests in a row
pub one_here : (b : Bool) (bs : List Bool) → b ≡ true → true ≡ one_of (b ∷ bs)
unfolding one_of
one_here b bs e = rw e

pub one_skip : (r b : Bool) (bs : List Bool) → b ≡ false → r ≡ one_of bs → r ≡ one_of (b ∷ bs)
unfolding one_of
one_skip r b bs e h = rw e h

pub one_none : false ≡ one_of []
unfolding one_of
one_none = refl

-- the last of them
pub one_last : (r b : Bool) → r ≡ b → r ≡ one_of (b ∷ [])
unfolding one_of
one_last r true e = e
one_last r false e = e

-- tests that are joined by |: t and r are what the code found
pub one_or : (t b r : Bool) (bs : List Bool) → t ≡ b → r ≡ one_of bs → (t || r) ≡ one_of (b ∷ bs)
unfolding one_of
one_or t b r bs e h = rw (e, h)

pub one_passed : (b : Bool) (bs : List Bool) → one_of (b ∷ bs) ≡ false → (b ≡ false) × (one_of bs ≡ false)
unfolding one_of
one_passed true bs e = no_way (sym e)
one_passed false bs e = (refl, e)

pub or_none : (a b : Bool) → (a || b) ≡ false → (a ≡ false) × (b ≡ false)
or_none true b e = no_way (sym e)
or_none false b e = (refl, e)

pub one_append : (xs ys : List Bool) → one_of (xs ++ ys) ≡ (one_of xs || one_of ys)
unfolding one_of
one_append [] ys = refl
one_append (true ∷ xs) ys = refl
one_append (false ∷ xs) ys = one_append xs ys

-- the test of a value that the code read: t is what it found of x, which is y
pub tested : {A : Type 0} (p : A → Bool) {x y : A} {t b : Bool} → x ≡ y → t ≡ p x → t ≡ b → p y ≡ b
tested p e h q = sym (ap p e) ∙ sym h ∙ q

-- one test of each element, in a loop: r is what is left to find from index k on
module _ {A : Type 0} (d : A) (p : A → Bool) where
  pub rest_here : (r : Bool) (xs : List A) (k : ℕ) → k < length xs → p (get_or xs k d) ≡ true → r ≡ one_of (map p (drop k xs)) → true ≡ r
  unfolding one_of
  rest_here r xs k h e q = sym (rw (drop-cons xs k d h, e) at q)

  pub rest_skip : (r : Bool) (xs : List A) (k : ℕ) → k < length xs → p (get_or xs k d) ≡ false → r ≡ one_of (map p (drop k xs)) → r ≡ one_of (map p (drop (k + 1) xs))
  unfolding one_of
  rest_skip r xs k h e q = rw add-one (rw (drop-cons xs k d h, e) at q)

  pub rest_each : (xs : List A) → one_of (map p xs) ≡ false → (k : ℕ) → k < length xs → p (get_or xs k d) ≡ false
  rest_each [] e k h = absurd (omega arith)
  rest_each (x ∷ xs) e zero h = (one_passed (p x) (map p xs) e).0
  rest_each (x ∷ xs) e (suc k) h = rest_each xs (one_passed (p x) (map p xs) e).1 k (omega arith)

-- and at its end
pub rest_none : {A : Type 0} (p : A → Bool) (r : Bool) (xs : List A) (k : ℕ) → length xs ≤ k → r ≡ one_of (map p (drop k xs)) → false ≡ r
unfolding one_of
rest_none p r xs k h q = sym (rw (drop_of_length-le xs h) at q)

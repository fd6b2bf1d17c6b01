-- The laws of marks: what occurs, and the bytes that say so.
-- Assumes nothing.
use mathlib.Core.Path.{◌≡◌, refl, sym, ap, ◌∙◌}
use mathlib.Core.Bool.{Bool, ◌||◌, or_assoc, or_comm}
use mathlib.Core.List.{List, [], ◌∷◌, ◌++◌, map}
use Prim.Native.Nat.{ℕ, ◌<◌}
use native.Mathlib.Omega.{arith}
use borrow.Author.Tests.{eq-eqb, ne_eqb}
use lib.Dec.{eqb}
use lib.ListN.{length, get_or, set, replicate, length-set, length-replicate, get_or-replicate}
use Rattle.format.specs.Mark.{mark_if}
use Rattle.wire.proofs.Laws.{tabulate_length, tabulate_at, tabulated, stored}
use Rattle.rollback.specs.Mask.{occurs, place, scratch_of}

-- one more, at the front and at the back
pub occurs_cons : (t s : ℕ) (xs : List ℕ) → occurs t (s ∷ xs) ≡ (eqb t s || occurs t xs)
unfolding occurs
occurs_cons t s xs = refl

pub occurs_snoc : (t s : ℕ) (xs : List ℕ) → occurs t (xs ++ (s ∷ [])) ≡ (eqb t s || occurs t xs)
unfolding occurs
occurs_snoc t s [] = refl
occurs_snoc t s (x ∷ xs) =
    ap (λ (b : Bool). eqb t x || b) (occurs_snoc t s xs)
    ∙ sym (or_assoc (eqb t x) (eqb t s) (occurs t xs))
    ∙ ap (λ (b : Bool). b || occurs t xs) (or_comm (eqb t x) (eqb t s))
    ∙ or_assoc (eqb t s) (eqb t x) (occurs t xs)

pub marks_length : (ids : List ℕ) (n : ℕ) → length (scratch_of ids n) ≡ n
unfolding scratch_of
marks_length ids n = tabulate_length n (λ p. mark_if (occurs p (map place ids)))

pub marks_at : (ids : List ℕ) (n p : ℕ) → p < n → get_or (scratch_of ids n) p 0 ≡ mark_if (occurs p (map place ids))
unfolding scratch_of
marks_at ids n p h = tabulate_at 0 n (λ p. mark_if (occurs p (map place ids))) p h

pub marks_none : (n : ℕ) → replicate n 0 ≡ scratch_of [] n
unfolding scratch_of occurs
marks_none n = tabulated 0 (replicate n 0) n (λ p. mark_if (occurs p [])) (length-replicate n 0) (λ p h. get_or-replicate n p 0 0 h)

-- a store of 1 marks one id more
pub marked : (xs ys : List ℕ) (s n : ℕ) → s < n → ((t : ℕ) → occurs t (map place ys) ≡ (eqb t s || occurs t (map place xs))) → set (scratch_of xs n) s 1 ≡ scratch_of ys n
unfolding scratch_of
marked xs ys s n h e =
    tabulated 0 (set (scratch_of xs n) s 1) n (λ t. mark_if (occurs t (map place ys))) (length-set (scratch_of xs n) s 1 ∙ marks_length xs n)
    (λ t l. stored 0 (scratch_of xs n) s 1 (λ t. mark_if (occurs t (map place ys))) t (omega (arith, marks_length xs n))
    (sym (rw (e s, eq-eqb s s refl)))
    (λ ne. marks_at xs n t l ∙ sym (rw (e t, ne_eqb t s ne))))

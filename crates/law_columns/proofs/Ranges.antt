-- Running totals do not fall; and a range that gives a list's elements.
-- Assumes nothing.
use mathlib.Core.Path.{◌≡◌, refl, sym, ap, ap₂, ◌∙◌}
use mathlib.Core.Bool.{false}
use mathlib.Core.List.{List, [], ◌∷◌, ◌++◌}
use Prim.Native.Nat.{ℕ, zero, suc, ◌+◌, ◌≤◌, ◌<◌}
use native.Mathlib.Nat.{add-zero}
use native.Mathlib.Omega.{arith}
use borrow.Author.Tests.{le-ltb}
use lib.ListN.{length, get_or}
use Rattle.wire.specs.Wire.{ranged}
use Rattle.layout.specs.Columns.{sum}
use Rattle.frames.specs.Judge.{falls}
use Rattle.columns.specs.Columns.{totals}

pub totals_stand : (n : ℕ) (ks : List ℕ) → falls (totals n ks) ≡ false
unfolding totals falls
totals_stand n [] = refl
totals_stand n (k ∷ []) = rw (le-ltb (n + k) n (omega arith))
totals_stand n (k ∷ l ∷ ks) = rw (le-ltb (n + k) n (omega arith)) (totals_stand (n + k) (l ∷ ks))

-- none is over the last
pub totals_most : (n : ℕ) (ks : List ℕ) (i : ℕ) → i ≤ length ks → get_or (totals n ks) i 0 ≤ n + sum ks
unfolding totals sum
totals_most n [] zero h = omega arith
totals_most n [] (suc i) h = absurd (omega arith)
totals_most n (k ∷ ks) zero h = omega arith
totals_most n (k ∷ ks) (suc i) h = omega (arith, totals_most (n + k) ks i (omega arith))

-- a range that gives a list's elements gives the list
pub ranged_list : {B : Type 0} (d : B) (h : ℕ → List B) (xs : List B) (n : ℕ) → ((j : ℕ) → j < length xs → h (n + j) ≡ get_or xs j d ∷ []) → ranged h n (length xs) ≡ xs
unfolding ranged
ranged_list d h [] n e = refl
ranged_list d h (x ∷ xs) n e =
    ap₂ (λ (a b : List _). a ++ b) (ap h (sym (add-zero n)) ∙ e 0 (omega arith))
    (ranged_list d h xs (n + 1) (λ j l. let q : n + 1 + j ≡ n + suc j = omega arith in ap h q ∙ e (suc j) (omega arith)))

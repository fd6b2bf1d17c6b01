-- Cells a step apart: what they are one by one, and where they stand.
-- Assumes nothing.
use mathlib.Core.Path.{◌≡◌, refl, ap, ◌∙◌}
use mathlib.Core.List.{List, [], ◌∷◌}
use Prim.Native.Nat.{ℕ, zero, suc, ◌+◌, ◌*◌, ◌<◌}
use native.Mathlib.Omega.{arith}
use lib.ListN.{length, get_or}
use Rattle.wire.specs.Wire.{ranged, tabulate}
use Rattle.wire.proofs.Laws.{length_ranged, tabulated}
use Rattle.rows_run.specs.Inner.{strided}

-- one element after another
single_at : (g : ℕ → ℕ) (i n j : ℕ) → j < n → get_or (ranged (λ k. g k ∷ []) i n) j 0 ≡ g (i + j)
unfolding ranged
single_at g i zero j h = absurd (omega arith)
single_at g i (suc n) zero h = let e : i ≡ i + zero = omega arith in ap g e
single_at g i (suc n) (suc j) h = let e : i + 1 + j ≡ i + suc j = omega arith in single_at g (i + 1) n j (omega arith) ∙ ap g e

module _ (cells : List ℕ) (first step n : ℕ) where
  pub strided_length : length (strided cells first step n) ≡ n
  unfolding strided
  strided_length = let e : length (ranged (λ k. get_or cells (first + k * step) 0 ∷ []) 0 n) ≡ n * 1 = length_ranged _ 1 (λ j. refl) 0 n in omega (arith, e)

  strided_at : (k : ℕ) → k < n → get_or (strided cells first step n) k 0 ≡ get_or cells (first + k * step) 0
  unfolding strided
  strided_at k h = let e : 0 + k ≡ k = omega arith in single_at (λ (j : ℕ). get_or cells (first + j * step) 0) 0 n k h ∙ ap (λ (j : ℕ). get_or cells (first + j * step) 0) e

  pub strided_is : strided cells first step n ≡ tabulate n (λ k. get_or cells (first + k * step) 0)
  strided_is = tabulated 0 (strided cells first step n) n (λ k. get_or cells (first + k * step) 0) strided_length strided_at

-- The laws of the line's parts, written one after the other.
-- Assumes nothing.
use mathlib.Core.Path.{◌≡◌}
use mathlib.Core.Bool.{Bool}
use mathlib.Core.List.{List, [], ◌∷◌, ◌++◌}
use Prim.Native.Nat.{ℕ, ◌-◌, ◌^◌, ◌≤◌, ◌<◌}
use native.Mathlib.Decide.{dec_lt}
use native.Mathlib.Nat.{pow-le-pow_right}
use native.Mathlib.Omega.{arith}
use lib.Dec.{lit<}
use borrow.Author.Tests.{lt-ltb, le-ltb}
use lib.ListN.{length, take}
use Rattle.io.specs.Digits.{last_digits, IsDigitCount}
use Rattle.wire.specs.Wire.{Wrote}
use Rattle.wire.proofs.Writers.{wrote_then}
use Rattle.format.specs.Refusal.{lowest}
use Rattle.de.specs.Walk.{walk_of}
use Rattle.de.specs.Numbers.{walk_numbers}
use Rattle.de.specs.declared.Walked.{Walked}
use Rattle.de.specs.declared.Walked.TheVariants.{Done, Refused}
use Rattle.de.proofs.Only.{walk_told}
use Rattle.walk_line.specs.Line.{Decimal, Pair, pair, state, refused_word, input_refusal, input_of, Line, done, refused, Put}

-- a number of 64 bits has at most 20 digits
pub at_most_20 : (n k : ℕ) → n < 2 ^ 64 → IsDigitCount 10 1 n k → k ≤ 20
at_most_20 n k h f =
    elim (dec_lt 20 k) [
      | yes l ↦ let p = pow-le-pow_right {n = 10} (lit< tt) {i = 20} {j = k - 1} (omega arith) in absurd (omega (arith, p, f.2 (omega arith)))
      | no l ↦ omega arith
    ]

module _ {x₀ x₁ : List ℕ} {p₀ p₁ : ℕ} where
  pub put_decimal : (n k : ℕ) (out : List ℕ) → IsDigitCount 10 1 n k → take k out ≡ last_digits 10 k n → Wrote x₀ x₁ p₀ p₁ (take k out) → Put (Decimal n) x₀ x₁ p₀ p₁
  put_decimal n k out f d w = record { text = take k out; kind = record { count = k; fewest = f; digits_are = d }; wrote = w }

  module _ {x₂ : List ℕ} {p₂ : ℕ} where
    pub put_done : {a b place : ℕ} (whole : Bool) → Put (Pair a b) x₀ x₁ p₀ p₁ → Wrote x₁ x₂ p₁ p₂ (state whole) → Put (Line (Done a b whole place)) x₀ x₂ p₀ p₂
    put_done whole x w = record { text = x.text ++ state whole; kind = done x.kind; wrote = wrote_then x.wrote w }

    module _ {x₃ : List ℕ} {p₃ : ℕ} where
      pub put_pair : {a b : ℕ} → Put (Decimal a) x₀ x₁ p₀ p₁ → Wrote x₁ x₂ p₁ p₂ (0x20 ∷ []) → Put (Decimal b) x₂ x₃ p₂ p₃ → Put (Pair a b) x₀ x₃ p₀ p₃
      put_pair x w y = record { text = x.text ++ (0x20 ∷ y.text); kind = pair x.kind y.kind; wrote = wrote_then x.wrote (wrote_then w y.wrote) }

      pub put_refused : {a b : ℕ} → Wrote x₀ x₁ p₀ p₁ refused_word → Put (Pair a b) x₁ x₂ p₁ p₂ → Wrote x₂ x₃ p₂ p₃ (0x0a ∷ []) → Put (Line (Refused a b)) x₀ x₃ p₀ p₃
      put_refused v x w = record { text = refused_word ++ (x.text ++ (0x0a ∷ [])); kind = refused x.kind; wrote = wrote_then v (wrote_then x.wrote w) }

-- ---- the judgement of 18

pub too_long_lem : (f : List ℕ) → 65536 < length f → Refused 18 0 ≡ input_of f
unfolding input_of input_refusal lowest
too_long_lem f h = rw (lt-ltb 65536 (length f) h)

pub short_enough : (f : List ℕ) (w : Walked) → length f ≤ 65536 → walk_numbers w ≡ walk_numbers (walk_of f) → w ≡ input_of f
unfolding input_of input_refusal lowest
short_enough f w h e = rw (le-ltb 65536 (length f) h) (walk_told w (walk_of f) e)

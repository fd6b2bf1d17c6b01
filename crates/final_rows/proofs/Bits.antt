-- One bit more in bytes of bits.
-- Assumes nothing.
use mathlib.Core.Path.{◌≡◌, refl, sym, ap, ◌∙◌}
use mathlib.Core.Bool.{Bool, true, false, cond, ◌||◌}
use mathlib.Core.List.{List}
use Prim.Native.Nat.{ℕ, zero, suc, ◌+◌, ◌-◌, ◌*◌, ◌/◌, ◌%◌, ◌^◌, ◌<◌}
use native.Mathlib.Nat.{one-mul, zero-div, pow-succ', div-eq_of_lt}
use native.Mathlib.Decide.{dec_lt, ℕ_discrete}
use native.Mathlib.Omega.{arith}
use borrow.Author.Tests.{eq-eqb, ne_eqb}
use lib.Bits.{bit_or, or_shr, or_mod, or_zero_l, or_zero_r, or_self}
use lib.Dec.{eqb}
use lib.ListN.{length, get_or, replicate, length-set, length-replicate, get_or-replicate, get_or-eq_default}
use lib.Pow.{pow-add, pow-lt, shl-shr}
use lib.Seq.{get_or-set_same, get_or-set_other}
use Rattle.final_rows.specs.Inner.{bit_at, with_bit}

-- ---- a power of two has one bit
other_bit : (b k : ℕ) → (k ≡ b → ⊥) → 2 ^ b / 2 ^ k % 2 ≡ 0
other_bit b k ne =
    elim (dec_lt k b) [
      | yes l ↦
          let m = b - suc k in
          let e : suc m + k ≡ b = omega arith in
          let power : 2 ^ b ≡ 2 ^ suc m * 2 ^ k = ap (λ (n : ℕ). 2 ^ n) (sym e) ∙ pow-add 2 (suc m) k in
          ap (λ (n : ℕ). n / 2 ^ k % 2) power ∙ ap (λ (n : ℕ). n % 2) (shl-shr (2 ^ suc m) k) ∙ omega (arith, pow-succ' 2 m)
      | no r ↦
          let l : b < k = omega (arith, ne) in
          ap (λ (n : ℕ). n % 2) (div-eq_of_lt (pow-lt l))
    ]

own_bit : (b : ℕ) → 2 ^ b / 2 ^ b % 2 ≡ 1
own_bit b = ap (λ (n : ℕ). n % 2) (ap (λ (n : ℕ). n / 2 ^ b) (sym (one-mul (2 ^ b))) ∙ shl-shr 1 b)

one_or : (y : ℕ) → y < 2 → bit_or y 1 ≡ 1
one_or zero h = or_zero_l 1
one_or (suc zero) h = or_self 1
one_or (suc (suc y)) h = absurd (omega arith)

bit_or_lem : (x b k : ℕ) → bit_or x (2 ^ b) / 2 ^ k % 2 ≡ cond (eqb k b) 1 (x / 2 ^ k % 2)
bit_or_lem x b k =
    ap (λ (n : ℕ). n % 2) (or_shr x (2 ^ b) k)
    ∙ or_mod (x / 2 ^ k) (2 ^ b / 2 ^ k) 1
    ∙ elim (ℕ_discrete k b) [
      | yes e ↦ rw (eq-eqb k b e, e, own_bit b) (one_or (x / 2 ^ b % 2) (omega arith))
      | no n ↦ rw (ne_eqb k b n, other_bit b k n) (or_zero_r (x / 2 ^ k % 2))
    ]

-- ---- bytes
pub bit_with : (marks : List ℕ) (q r : ℕ) → q / 8 < length marks → bit_at (with_bit marks q) r ≡ (eqb r q || bit_at marks r)
unfolding bit_at with_bit
bit_with marks q r h =
    elim (ℕ_discrete (r / 8) (q / 8)) [
      | yes e ↦
          rw (e, get_or-set_same marks (q / 8) (bit_or (get_or marks (q / 8) 0) (2 ^ (q % 8))) 0 h, bit_or_lem (get_or marks (q / 8) 0) (q % 8) (r % 8), same_bit e)
          (go (eqb r q))
      | no n ↦
          let other : r ≡ q → ⊥ = λ z. n (ap (λ (m : ℕ). m / 8) z) in
          rw (get_or-set_other marks (q / 8) (r / 8) (bit_or (get_or marks (q / 8) 0) (2 ^ (q % 8))) 0 n, ne_eqb r q other)
    ]
  where
    same_bit : r / 8 ≡ q / 8 → eqb (r % 8) (q % 8) ≡ eqb r q
    same_bit e =
        elim (ℕ_discrete (r % 8) (q % 8)) [
          | yes f ↦ let z : r ≡ q = omega arith in eq-eqb (r % 8) (q % 8) f ∙ sym (eq-eqb r q z)
          | no f ↦ ne_eqb (r % 8) (q % 8) f ∙ sym (ne_eqb r q (λ z. f (ap (λ (m : ℕ). m % 8) z)))
        ]

    go : (t : Bool) → eqb (cond t 1 (get_or marks (q / 8) 0 / 2 ^ (r % 8) % 2)) 1 ≡ (t || eqb (get_or marks (q / 8) 0 / 2 ^ (r % 8) % 2) 1)
    go true = refl
    go false = refl

pub with_length : (marks : List ℕ) (q : ℕ) → length (with_bit marks q) ≡ length marks
unfolding with_bit
with_length marks q = length-set marks (q / 8) (bit_or (get_or marks (q / 8) 0) (2 ^ (q % 8)))

zeros : (n k : ℕ) → get_or (replicate {A = ℕ} n 0) k 0 ≡ 0
zeros n k =
    elim (dec_lt k n) [
      | yes l ↦ get_or-replicate {A = ℕ} n k 0 0 l
      | no r ↦ get_or-eq_default (replicate {A = ℕ} n 0) 0 {n = k} (omega (arith, length-replicate {A = ℕ} n 0, r))
    ]

pub bit_none : (n q : ℕ) → bit_at (replicate n 0) q ≡ false
unfolding bit_at
bit_none n q = rw (zeros n (q / 8), zero-div)

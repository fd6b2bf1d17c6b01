-- Sums over rows.
-- Assumes nothing.
use mathlib.Core.Path.{◌≡◌, refl, sym, ap, ap₂, ◌∙◌}
use mathlib.Core.Bool.{Bool, true, false, cond, ◌&&◌}
use Prim.Native.Nat.{ℕ, zero, suc, ◌+◌, ◌-◌, ◌≤◌, ◌<◌}
use native.Mathlib.Nat.{mul-zero, add-zero, zero-add, le_refl}
use native.Mathlib.Decide.{dec_lt}
use native.Mathlib.Omega.{arith}
use borrow.Author.Tests.{le-leb, lt-leb, lt-ltb, le-ltb}
use lib.Dec.{ltb, lit≤}
use Rattle.wire.proofs.Sums.{summed, summed_add, summed_same, summed_const}
use Rattle.final_rows.specs.Inner.{in_window}

pub summed_first : (F : ℕ → ℕ) (k n : ℕ) → k < n → summed F k (n - k) ≡ F k + summed F (suc k) (n - suc k)
unfolding summed
summed_first F k n h =
    let e : n - k ≡ suc (n - suc k) = omega arith in
    let q : k + 1 ≡ suc k = omega arith in
    ap (summed F k) e ∙ ap (λ (j : ℕ). F k + summed F j (n - suc k)) q

pub summed_none : (F : ℕ → ℕ) (k n : ℕ) → n ≤ k → summed F k (n - k) ≡ 0
unfolding summed
summed_none F k n h = let e : n - k ≡ 0 = omega arith in rw e

pub summed_most : (F G : ℕ → ℕ) (i n : ℕ) → ((j : ℕ) → F j ≤ G j) → summed F i n ≤ summed G i n
unfolding summed
summed_most F G i zero h = lit≤ tt
summed_most F G i (suc n) h = omega (arith, h i, summed_most F G (i + 1) n h)

pub summed_split : (F : ℕ → ℕ) (i a b : ℕ) → summed F i (a + b) ≡ summed F i a + summed F (i + a) b
unfolding summed
summed_split F i zero b = ap₂ (λ (m k : ℕ). summed F k m) (zero-add b) (sym (add-zero i)) ∙ sym (zero-add (summed F (i + 0) b))
summed_split F i (suc a) b =
    let e : suc a + b ≡ suc (a + b) = omega arith in
    let q : i + 1 + a ≡ i + suc a = omega arith in
    ap (summed F i) e ∙ ap (λ (k : ℕ). F i + k) (summed_split F (i + 1) a b ∙ ap (λ (k : ℕ). summed F (i + 1) a + summed F k b) q) ∙ omega arith

pub summed_rest : (F : ℕ → ℕ) (k n : ℕ) → k ≤ n → summed F k (n - k) ≤ summed F 0 n
summed_rest F k n h =
    let e : k + (n - k) ≡ n = omega arith in
    omega (arith, ap (summed F 0) (sym e) ∙ summed_split F 0 k (n - k) ∙ ap (λ (j : ℕ). summed F 0 k + summed F j (n - k)) (zero-add k))

pub summed_within : (F G : ℕ → ℕ) (i n : ℕ) → ((j : ℕ) → j < i + n → F j ≡ G j) → summed F i n ≡ summed G i n
unfolding summed
summed_within F G i zero h = refl
summed_within F G i (suc n) h = ap₂ (λ (a b : ℕ). a + b) (h i (omega arith)) (summed_within F G (i + 1) n (λ j l. h j (omega arith)))

pub cond_most : (b : Bool) (x : ℕ) → cond b x 0 ≤ x
cond_most true x = le_refl x
cond_most false x = omega arith

-- ---- windows one after another
window_add : (base p x : ℕ) (d : Bool) → cond (ltb p base && d) x 0 + cond (in_window base p && d) x 0 ≡ cond (ltb p (base + 32768) && d) x 0
window_add base p x d =
    elim (dec_lt p base) [
      | yes l ↦ let m : p < base + 32768 = omega arith in rw (lt-ltb p base l, lt-leb base p l, lt-ltb p (base + 32768) m) (add-zero (cond d x 0))
      | no r ↦
          let h : base ≤ p = omega (arith, r) in
          elim (dec_lt (p - base) 32768) [
            | yes l ↦ let m : p < base + 32768 = omega arith in rw (le-ltb p base h, le-leb base p h, lt-ltb (p - base) 32768 l, lt-ltb p (base + 32768) m) (zero-add (cond d x 0))
            | no q ↦
                let k : 32768 ≤ p - base = omega (arith, q) in
                let m : base + 32768 ≤ p = omega arith in
                rw (le-ltb p base h, le-leb base p h, le-ltb (p - base) 32768 k, le-ltb p (base + 32768) m)
          ]
    ]

all_zero : (i m : ℕ) → summed (λ i. 0) i m ≡ 0
all_zero i m = summed_const 0 i m ∙ mul-zero m

module _ (P : ℕ → ℕ) (D : ℕ → Bool) (G : ℕ → ℕ) (n : ℕ) where
  abbrev pub up_to : ℕ → ℕ
  up_to base = summed (λ i. cond (ltb (P i) base && D i) (G i) 0) 0 n

  pub window_next : (base : ℕ) → up_to base + summed (λ i. cond (in_window base (P i) && D i) (G i) 0) 0 n ≡ up_to (base + 32768)
  window_next base = sym (summed_add _ _ 0 n) ∙ summed_same _ _ 0 n (λ i. window_add base (P i) (G i) (D i))

  pub window_first : up_to 0 ≡ 0
  window_first = summed_within _ (λ i. 0) 0 n (λ i l. nothing (P i) (D i) (G i)) ∙ zeros 0 n
    where
      nothing : (p : ℕ) (d : Bool) (x : ℕ) → cond (ltb p 0 && d) x 0 ≡ 0
      nothing p d x = rw (le-ltb p 0 (omega arith))

      zeros : (i m : ℕ) → summed (λ i. 0) i m ≡ 0
      zeros i m = all_zero i m

  pub window_last : (base : ℕ) → ((i : ℕ) → i < n → P i < base) → up_to base ≡ summed (λ i. cond (D i) (G i) 0) 0 n
  window_last base h = summed_within _ _ 0 n (λ i l. below i (h i (omega arith)))
    where
      below : (i : ℕ) → P i < base → cond (ltb (P i) base && D i) (G i) 0 ≡ cond (D i) (G i) 0
      below i l = rw (lt-ltb (P i) base l)

  pub up_to_most : (base : ℕ) → up_to base ≤ summed G 0 n
  up_to_most base = summed_most _ G 0 n (λ i. cond_most (ltb (P i) base && D i) (G i))

-- ---- a sweep from the last row back
module _ (D : ℕ → Bool) (G : ℕ → ℕ) (N k n : ℕ) (l : k ≤ N) (e : n ≡ summed (λ i. cond (D i) (G i) 0) k (N - k)) where
  abbrev F : ℕ → ℕ
  F i = cond (D i) (G i) 0

  pub back_most : n ≤ summed G 0 N
  back_most = omega (arith, e, summed_rest F k N l, summed_most F G 0 N (λ i. cond_most (D i) (G i)))

  module _ (h : 0 < k) where
    back : summed F (k - 1) (N - (k - 1)) ≡ F (k - 1) + n
    back =
        let q : suc (k - 1) ≡ k = omega arith in
        summed_first F (k - 1) N (omega arith) ∙ ap (λ (j : ℕ). F (k - 1) + summed F j (N - j)) q ∙ ap (λ (m : ℕ). F (k - 1) + m) (sym e)

    pub back_in : D (k - 1) ≡ true → n + G (k - 1) ≡ summed F (k - 1) (N - (k - 1))
    back_in d = let x : F (k - 1) ≡ G (k - 1) = rw d in omega (arith, back)

    pub back_out : D (k - 1) ≡ false → n ≡ summed F (k - 1) (N - (k - 1))
    back_out d = let x : F (k - 1) ≡ 0 = rw d in omega (arith, back)

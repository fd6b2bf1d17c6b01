-- The marks of slots are bits of a number.
-- Assumes nothing.
use mathlib.Core.Path.{◌≡◌, refl, sym, ap, ap₂, ◌∙◌}
use mathlib.Core.Bool.{Bool, true, false, cond, ◌||◌, or_assoc, or-false}
use mathlib.Core.List.{List, [], ◌∷◌}
use Prim.Native.Nat.{ℕ, zero, suc, ◌+◌, ◌-◌, ◌*◌, ◌/◌, ◌%◌, ◌^◌, ◌<◌, max}
use native.Mathlib.Decide.{dec_lt}
use native.Mathlib.Nat.{zero-mul, zero-add, add-zero, one-mul, div-add-mod', mod-lt}
use native.Mathlib.Omega.{arith}
use borrow.Author.Tests.{eq-eqb, ne_eqb, eqb-true}
use lib.Bits.{bit_or, or_shr, or_mod, or_step, or_zero_r, or_block}
use lib.Dec.{eqb}
use lib.Pow.{pow-lt, pow_pos, pow-add, shl-shr, high}
use Rattle.game.specs.Frames.{is_marked}
use Rattle.grammar.specs.Productions.{Player}
use Rattle.grammar.specs.WellFormed.{slot_of}
use Rattle.columns.specs.Columns.{holds}

below : (j k : ℕ) → j < k → 2 ^ j / 2 ^ k ≡ 0
below j k h = ap (λ (n : ℕ). n / 2 ^ k) (sym (ap (λ (n : ℕ). n + 2 ^ j) (zero-mul (2 ^ k)) ∙ zero-add (2 ^ j))) ∙ high 0 k (pow-lt h)

even : (i : ℕ) → 2 ^ suc i % 2 ≡ 0
even i = omega arith

above : (j k : ℕ) → k < j → 2 ^ j / 2 ^ k % 2 ≡ 0
above j k h =
    let i = j - k - 1 in
    let e : j ≡ suc i + k = omega arith in
    ap (λ (n : ℕ). 2 ^ n / 2 ^ k % 2) e
    ∙ ap (λ (n : ℕ). n / 2 ^ k % 2) (pow-add 2 (suc i) k)
    ∙ ap (λ (n : ℕ). n % 2) (shl-shr (2 ^ suc i) k)
    ∙ even i

same : (k : ℕ) → 2 ^ k / 2 ^ k ≡ 1
same k = ap (λ (n : ℕ). n / 2 ^ k) (sym (one-mul (2 ^ k))) ∙ shl-shr 1 k

-- the only bit of a power
power_bit : (j k : ℕ) → 2 ^ j / 2 ^ k % 2 ≡ cond (eqb j k) 1 0
power_bit j k =
    elim (dec_lt j k) [
      | yes h ↦ ap (λ (n : ℕ). n % 2) (below j k h) ∙ sym (ap (λ (b : Bool). cond b 1 0) (ne_eqb j k (λ e. omega arith)))
      | no h ↦
          elim (dec_lt k j) [
            | yes l ↦ above j k l ∙ sym (ap (λ (b : Bool). cond b 1 0) (ne_eqb j k (λ e. omega arith)))
            | no l ↦
                let e : j ≡ k = omega arith in
                ap (λ (n : ℕ). 2 ^ n / 2 ^ k % 2) e ∙ ap (λ (n : ℕ). n % 2) (same k) ∙ sym (ap (λ (b : Bool). cond b 1 0) (eq-eqb j k e))
          ]
    ]

or_bit : (x : ℕ) (b : Bool) → x < 2 → eqb (bit_or x (cond b 1 0)) 1 ≡ (eqb x 1 || b)
or_bit zero true h = refl
or_bit zero false h = refl
or_bit (suc zero) true h = refl
or_bit (suc zero) false h = refl
or_bit (suc (suc x)) b h = absurd (omega arith)

-- one more is marked
pub marked_more : (slots j k : ℕ) → is_marked (bit_or slots (2 ^ j)) k ≡ (is_marked slots k || eqb j k)
unfolding is_marked
marked_more slots j k =
    let x = slots / 2 ^ k % 2 in
    ap (λ (n : ℕ). eqb (n % 2) 1) (or_shr slots (2 ^ j) k)
    ∙ ap (λ (n : ℕ). eqb n 1) (or_mod (slots / 2 ^ k) (2 ^ j / 2 ^ k) 1)
    ∙ ap (λ (n : ℕ). eqb (bit_or x n) 1) (power_bit j k)
    ∙ or_bit x (eqb j k) (omega arith)

pub none_marked : (k : ℕ) → is_marked 0 k ≡ false
unfolding is_marked
none_marked k = ne_eqb (0 / 2 ^ k % 2) 1 (λ e. omega (arith, zero_over k))
  where
    zero_over : (k : ℕ) → 0 / 2 ^ k ≡ 0
    zero_over k = ap (λ (n : ℕ). n / 2 ^ k) (sym (zero-mul (2 ^ k))) ∙ shl-shr 0 k

-- the players of a frame mark their slots
unfoldable pub marks : ℕ → List Player → ℕ
marks slots [] = slots
marks slots (p ∷ ps) = marks (bit_or slots (2 ^ slot_of p)) ps

pub marks_hold : (k : ℕ) (ps : List Player) (slots : ℕ) → is_marked (marks slots ps) k ≡ (is_marked slots k || holds k ps)
unfolding marks holds
marks_hold k [] slots = sym (or-false (is_marked slots k))
marks_hold k (p ∷ ps) slots =
    marks_hold k ps (bit_or slots (2 ^ slot_of p))
    ∙ ap (λ (b : Bool). b || holds k ps) (marked_more slots (slot_of p) k)
    ∙ or_assoc (is_marked slots k) (eqb (slot_of p) k) (holds k ps)

-- marking what is marked changes nothing
pub marked_stays : (slots k : ℕ) → is_marked slots k ≡ true → bit_or slots (2 ^ k) ≡ slots
unfolding is_marked
marked_stays slots k h =
    let a = slots / 2 ^ k in
    let r = slots % 2 ^ k in
    let pos : 0 < 2 ^ k = pow_pos k in
    let whole : a * 2 ^ k + r ≡ slots = div-add-mod' slots (2 ^ k) in
    let one : 1 * 2 ^ k + 0 ≡ 2 ^ k = ap (λ (n : ℕ). n + 0) (one-mul (2 ^ k)) ∙ add-zero (2 ^ k) in
    ap₂ bit_or (sym whole) (sym one)
    ∙ or_block k a 1 r 0 (mod-lt slots pos) pos
    ∙ ap₂ (λ (x y : ℕ). x * 2 ^ k + y) (odd_or a (eqb-true (a % 2) 1 h)) (or_zero_r r)
    ∙ whole
  where
    odd_or : (a : ℕ) → a % 2 ≡ 1 → bit_or a 1 ≡ a
    odd_or a e =
        or_step a 1
        ∙ ap₂ (λ (x y : ℕ). x * 2 + y) (or_zero_r (a / 2)) (ap (λ (n : ℕ). max n 1) e)
        ∙ (let q : a / 2 * 2 + 1 ≡ a = omega arith in q)

-- No second outcome fits: what `report` and `report_read` promise of their number and of the buffer afterwards leaves one of each.
-- Assumes nothing.
use mathlib.Core.Path.{◌≡◌, sym, ap, ap₂, ◌∙◌}
use mathlib.Core.List.{List, [], ◌∷◌, ◌++◌}
use Prim.Native.Nat.{ℕ, ◌+◌, ◌-◌, ◌<◌}
use native.Mathlib.Decide.{dec_lt}
use native.Mathlib.Nat.{pow-le-pow_right}
use native.Mathlib.Omega.{arith}
use lib.Dec.{lit<}
use lib.ListN.{length}
use Rattle.io.specs.Digits.{last_digits, IsDigitCount}
use Rattle.wire.specs.Wire.{splice}
use Rattle.de.specs.declared.Walked.{Walked}
use Rattle.walk_line.specs.Line.{Decimal, Pair, pair, state, refused_word, Line, done, refused, Put}

no_fewer : (n a b : ℕ) → IsDigitCount 10 1 n a → IsDigitCount 10 1 n b → a < b → ⊥
no_fewer n a b f g l =
    let p = pow-le-pow_right {n = 10} (lit< tt) {i = a} {j = b - 1} (omega arith) in
    omega (arith, p, g.2 (omega arith))

one_count : (n a b : ℕ) → IsDigitCount 10 1 n a → IsDigitCount 10 1 n b → a ≡ b
one_count n a b f g =
    elim (dec_lt a b) [
      | yes l ↦ absurd (no_fewer n a b f g l)
      | no l ↦ elim (dec_lt b a) [ yes m ↦ absurd (no_fewer n b a g f m) | no m ↦ omega arith ]
    ]

one_decimal : {n : ℕ} {x y : List ℕ} → Decimal n x → Decimal n y → x ≡ y
one_decimal {n} d e = d.digits_are ∙ ap (λ (k : ℕ). last_digits 10 k n) (one_count n d.count e.count d.fewest e.fewest) ∙ sym e.digits_are

one_pair : {a b : ℕ} {x y : List ℕ} → Pair a b x → Pair a b y → x ≡ y
one_pair (pair p q) (pair r s) = ap₂ (λ (u v : List ℕ). u ++ (0x20 ∷ v)) (one_decimal p r) (one_decimal q s)

pub one_line : {w : Walked} {x y : List ℕ} → Line w x → Line w y → x ≡ y
one_line (done {whole = b} p) (done q) = ap (λ (u : List ℕ). u ++ state b) (one_pair p q)
one_line (refused p) (refused q) = ap (λ (u : List ℕ). refused_word ++ (u ++ (0x0a ∷ []))) (one_pair p q)

-- the number of bytes, and every byte of the buffer
pub one_report : {w : Walked} {before x y : List ℕ} {n m : ℕ} → Put (Line w) before x 0 n → Put (Line w) before y 0 m → (n ≡ m) × (x ≡ y)
one_report {before = before} p q =
    let e = one_line p.kind q.kind in
    (p.wrote.next_is ∙ ap (λ (t : List ℕ). 0 + length t) e ∙ sym q.wrote.next_is, p.wrote.after_is ∙ ap (splice before 0) e ∙ sym q.wrote.after_is)

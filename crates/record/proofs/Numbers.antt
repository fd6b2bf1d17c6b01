-- Bytes and the number that they make: they are its bytes, it is small, and its remainder is the number of the last of them.
-- Assumes nothing.
use mathlib.Core.Path.{◌≡◌, refl, sym, ap, ap₂, ◌∙◌}
use mathlib.Core.List.{List, [], ◌∷◌, ◌++◌}
use Prim.Native.Nat.{ℕ, suc, ◌+◌, ◌-◌, ◌*◌, ◌/◌, ◌%◌, ◌^◌, ◌≤◌, ◌<◌}
use native.Mathlib.Nat.{mul-one, add-zero, zero-mul, zero-add, add_assoc, add-mul, mul_assoc, pow-succ', pow-le-pow_right, lt_of_lt_of_le}
use native.Mathlib.Numerals.{add-one, add-two, add-three}
use native.Mathlib.Decide.{dec_lt}
use native.Mathlib.Omega.{arith}
use lib.Arith.{digits_lt, digits_div, digits_mod}
use lib.Dec.{lit<}
use lib.ListN.{length, get_or, take, drop, length-take, length-drop, get_or-eq_default}
use lib.Seq.{length-take-le, drop-cons, drop-drop, take-add, get_or-take, get_or-drop}
use Rattle.wire.specs.Wire.{be, more, number, part}

-- no element is over a byte; what is missing is 0
abbrev pub Bytes : List ℕ → Type 0
Bytes b = (i : ℕ) → get_or b i 0 < 256

pub bytes_take : (n : ℕ) (b : List ℕ) → Bytes b → Bytes (take n b)
bytes_take n b h i = elim (dec_lt i n) [
  | yes l ↦ rw (get_or-take n b i 0 l) (h i)
  | no r ↦ rw (get_or-eq_default (take n b) 0 {n = i} (rw length-take (omega arith))) (lit< tt)
]

pub bytes_drop : (n : ℕ) (b : List ℕ) → Bytes b → Bytes (drop n b)
bytes_drop n b h i = rw (get_or-drop n b i 0) (h (n + i))

more_is : (a : ℕ) (bs : List ℕ) → Bytes bs → (more a bs ≡ a * 256 ^ length bs + more 0 bs) × (more 0 bs < 256 ^ length bs)
unfolding more
more_is a [] h = (rw (mul-one, add-zero), lit< tt)
more_is a (x ∷ bs) h =
    let (e, l) = more_is (a * 256 + x) bs (λ i. h (suc i)) in
    let P = 256 ^ length bs in
    let M = more 0 bs in
    let top : more (0 * 256 + x) bs ≡ x * P + M = (more_is (0 * 256 + x) bs (λ i. h (suc i))).0 ∙ rw (zero-mul, zero-add) in
    let whole : a * 256 * P ≡ a * 256 ^ suc (length bs) = mul_assoc a 256 P ∙ ap (λ k. a * k) (sym (pow-succ' 256 (length bs))) in
    (e ∙ ap (λ k. k + M) (add-mul (a * 256) x P) ∙ add_assoc (a * 256 * P) (x * P) M ∙ ap₂ (λ (u v : ℕ). u + v) whole (sym top), rw (top, pow-succ') (digits_lt (h 0) l))

be_more : (a : ℕ) (bs : List ℕ) → Bytes bs → be (length bs) (more a bs) ≡ bs
unfolding more be
be_more a [] h = refl
be_more a (x ∷ bs) h =
    let (e, l) = more_is (a * 256 + x) bs (λ i. h (suc i)) in
    let first : more (a * 256 + x) bs / 256 ^ length bs % 256 ≡ x = ap (λ k. k / 256 ^ length bs % 256) e ∙ ap (λ k. k % 256) (digits_div (a * 256 + x) l) ∙ digits_mod a (h 0) in
    ap₂ (λ (y : ℕ) (ys : List ℕ). y ∷ ys) first (be_more (a * 256 + x) bs (λ i. h (suc i)))

pub be_number : (w : ℕ) (bs : List ℕ) → length bs ≡ w → Bytes bs → be w (number bs) ≡ bs
be_number w bs e h = ap (λ (n : ℕ). be n (number bs)) (sym e) ∙ be_more 0 bs h

pub number_small : (w : ℕ) (bs : List ℕ) → length bs ≤ w → Bytes bs → number bs < 256 ^ w
number_small w bs e h = lt_of_lt_of_le (more_is 0 bs h).1 (pow-le-pow_right {n = 256} (lit< tt) {i = length bs} {j = w} e)

-- four bytes as one number
pub four_is : (s : List ℕ) (at : ℕ) → at + 4 ≤ length s
    → get_or s at 0 * 16777216 + get_or s (at + 1) 0 * 65536 + get_or s (at + 2) 0 * 256 + get_or s (at + 3) 0 ≡ number (part s at 4)
unfolding more part
four_is s at h =
    let a : at < length s = omega arith in
    let b : suc at < length s = omega arith in
    let c : suc (suc at) < length s = omega arith in
    let d : suc (suc (suc at)) < length s = omega arith in
    rw (drop-cons s at 0 a, drop-cons s (suc at) 0 b, drop-cons s (suc (suc at)) 0 c, drop-cons s (suc (suc (suc at))) 0 d, add-one, add-two, add-three) (omega arith)

-- of four bytes, the last w
more_both : (a : ℕ) (xs ys : List ℕ) → more a (xs ++ ys) ≡ more (more a xs) ys
unfolding more
more_both a [] ys = refl
more_both a (x ∷ xs) ys = more_both (a * 256 + x) xs ys

pub low_is : (s : List ℕ) (end w : ℕ) → Bytes s → w ≤ 4 → 4 ≤ end → end ≤ length s → number (part s (end - 4) 4) % 256 ^ w ≡ number (part s (end - w) w)
unfolding part
low_is s end w bytes narrow room inside =
    let xs = take (4 - w) (drop (end - 4) s) in
    let ys = take w (drop (end - w) s) in
    let n : 4 ≡ 4 - w + w = omega arith in
    let p : end - 4 + (4 - w) ≡ end - w = omega arith in
    let split : take 4 (drop (end - 4) s) ≡ xs ++ ys =
    ap (λ (k : ℕ). take k (drop (end - 4) s)) n
    ∙ take-add (4 - w) w (drop (end - 4) s)
    ∙ ap (λ (l : List ℕ). xs ++ take w l) (drop-drop (4 - w) (end - 4) s ∙ ap (λ (k : ℕ). drop k s) p) in
    let long : length ys ≡ w = length-take-le w (drop (end - w) s) (rw length-drop (omega arith)) in
    let (e, small) = more_is (more 0 xs) ys (bytes_take w (drop (end - w) s) (bytes_drop (end - w) s bytes)) in
    ap (λ (l : List ℕ). number l % 256 ^ w) split
    ∙ ap (λ (k : ℕ). k % 256 ^ w) (more_both 0 xs ys ∙ e)
    ∙ ap (λ (k : ℕ). (more 0 xs * 256 ^ length ys + more 0 ys) % 256 ^ k) (sym long)
    ∙ digits_mod (more 0 xs) small

-- What stands at a place of a list, and the bytes of a number that bytes make.
-- Assumes nothing.
use mathlib.Core.Path.{◌≡◌, refl, sym, ap, ap₂, ◌∙◌}
use mathlib.Core.List.{List, [], ◌∷◌, ◌++◌, append_assoc}
use Prim.Native.Nat.{ℕ, suc, ◌+◌, ◌-◌, ◌*◌, ◌/◌, ◌%◌, ◌^◌, ◌≤◌, ◌<◌}
use native.Mathlib.Nat.{add-zero, zero-add, zero-mul, mul-one, mul_assoc, add-mul, add_assoc, pow-succ'}
use native.Mathlib.Numerals.{add-one}
use native.Mathlib.Omega.{arith}
use native.Mathlib.Decide.{dec_lt}
use lib.Arith.{digits_div, digits_mod, digits_lt}
use lib.Dec.{lit<}
use lib.ListN.{length, take, drop, get_or, length-append, length-drop, length-take, take-append-drop, get_or-eq_default}
use lib.Seq.{drop-cons, drop-drop, drop-append_seam, take-append_seam, get_or-drop, get_or-take}
use Rattle.wire.specs.Wire.{be, more, part, number as number_of}
use Rattle.map_reader.specs.Read.{Bytes}

-- these stand at p, and then the rest
pub record Stands (b : List ℕ) (p : ℕ) (xs rest : List ℕ) : Type 0 where
  pub place : p ≤ length b
  pub bytes : drop p b ≡ xs ++ rest

module _ {b : List ℕ} {p : ℕ} {rest : List ℕ} where
  -- the first
  pub first_is : (x : ℕ) (xs : List ℕ) → Stands b p (x ∷ xs) rest → (get_or b p 0 ≡ x) × (p < length b) × Stands b (p + 1) xs rest
  first_is x xs s =
      let e : drop p b ≡ x ∷ (xs ++ rest) = s.bytes in
      let n : length b - p ≡ suc (length (xs ++ rest)) = sym (length-drop p b) ∙ ap length e in
      let first : get_or b p 0 ≡ x = ap (λ k. get_or b k 0) (sym (add-zero p)) ∙ sym (get_or-drop p b 0 0) ∙ ap (λ l. get_or l 0 0) e in
      (first, omega arith, record { place = omega arith; bytes = sym (drop-drop 1 p b) ∙ ap (drop 1) e })

  -- what follows xs, and xs itself
  pub second_is : (xs ys : List ℕ) → Stands b p (xs ++ ys) rest → Stands b p xs (ys ++ rest) × Stands b (p + length xs) ys rest
  second_is xs ys s =
      let e : drop p b ≡ xs ++ (ys ++ rest) = s.bytes ∙ append_assoc xs ys rest in
      let n : length b - p ≡ length xs + length (ys ++ rest) = sym (length-drop p b) ∙ ap length e ∙ length-append xs (ys ++ rest) in
      (record { place = s.place; bytes = e }, record { place = omega (arith, s.place); bytes = sym (drop-drop (length xs) p b) ∙ ap (drop (length xs)) e ∙ drop-append_seam xs (ys ++ rest) })

  pub part_is : (xs : List ℕ) → Stands b p xs rest → (part b p (length xs) ≡ xs) × (p + length xs ≤ length b)
  unfolding part
  part_is xs s =
      let n : length b - p ≡ length xs + length rest = sym (length-drop p b) ∙ ap length s.bytes ∙ length-append xs rest in
      (ap (take (length xs)) s.bytes ∙ take-append_seam xs rest, omega (arith, s.place))

  pub rest_is : (xs : List ℕ) → Stands b p xs rest → drop (p + length xs) b ≡ rest
  rest_is xs s = sym (drop-drop (length xs) p b) ∙ ap (drop (length xs)) s.bytes ∙ drop-append_seam xs rest

-- put together: a first element, a part, and two lists
module _ {b : List ℕ} {p : ℕ} where
  pub stands_cons : {x : ℕ} {xs rest : List ℕ} → p < length b → get_or b p 0 ≡ x → Stands b (p + 1) xs rest → Stands b p (x ∷ xs) rest
  stands_cons {x} {xs} {rest} h e s = record {
    place = omega arith;
    bytes = drop-cons b p 0 h ∙ ap₂ (λ (y : ℕ) (l : List ℕ). y ∷ l) e (ap (λ k. drop k b) (sym (add-one p)) ∙ s.bytes);
  }

  pub stands_part : (n : ℕ) → p + n ≤ length b → Stands b p (part b p n) (drop (p + n) b)
  unfolding part
  stands_part n h = record { place = omega arith; bytes = sym (take-append-drop n (drop p b)) ∙ ap (λ l. take n (drop p b) ++ l) (drop-drop n p b) }

  pub stands_append : {q : ℕ} {xs ys rest : List ℕ} → Stands b p xs (drop q b) → Stands b q ys rest → Stands b p (xs ++ ys) rest
  stands_append {xs = xs} {ys = ys} {rest = rest} s t = record { place = s.place; bytes = s.bytes ∙ ap (λ l. xs ++ l) t.bytes ∙ sym (append_assoc xs ys rest) }

pub there : (b : List ℕ) (p : ℕ) {x : ℕ} → get_or b p 0 ≡ x → 0 < x → p < length b
there b p e h = elim (dec_lt p (length b)) [
  | yes l ↦ l
  | no n ↦ let z = get_or-eq_default b 0 {n = p} (omega arith) in absurd (omega arith)
]

-- ---- the bytes of the number that bytes make
pub more_is : (a : ℕ) (bs : List ℕ) → Bytes bs → (more a bs ≡ a * 256 ^ length bs + more 0 bs) × (more 0 bs < 256 ^ length bs)
unfolding more
more_is a [] h = (rw (mul-one, add-zero), lit< tt)
more_is a (x ∷ bs) h =
    let (e, l) = more_is (a * 256 + x) bs (λ i. h (suc i)) in
    let P = 256 ^ length bs in
    let M = more 0 bs in
    let top : more (0 * 256 + x) bs ≡ x * P + M = (more_is (0 * 256 + x) bs (λ i. h (suc i))).0 ∙ rw (zero-mul, zero-add) in
    let whole : a * 256 * P ≡ a * 256 ^ suc (length bs) = mul_assoc a 256 P ∙ ap (λ k. a * k) (sym (pow-succ' 256 (length bs))) in
    (e ∙ ap (λ k. k + M) (add-mul (a * 256) x P) ∙ add_assoc (a * 256 * P) (x * P) M ∙ ap₂ (λ (u v : ℕ). u + v) whole (sym top), rw (top, pow-succ') (digits_lt (h 0) l))

be_more : (a : ℕ) (bs : List ℕ) → Bytes bs → be (length bs) (more a bs) ≡ bs
unfolding more be
be_more a [] h = refl
be_more a (x ∷ bs) h =
    let (e, l) = more_is (a * 256 + x) bs (λ i. h (suc i)) in
    let first : more (a * 256 + x) bs / 256 ^ length bs % 256 ≡ x = ap (λ k. k / 256 ^ length bs % 256) e ∙ ap (λ k. k % 256) (digits_div (a * 256 + x) l) ∙ digits_mod a (h 0) in
    ap₂ (λ (y : ℕ) (ys : List ℕ). y ∷ ys) first (be_more (a * 256 + x) bs (λ i. h (suc i)))

pub be_number : (bs : List ℕ) (w : ℕ) → length bs ≡ w → Bytes bs → (be w (number_of bs) ≡ bs) × (number_of bs < 256 ^ w)
be_number bs w e h = rw (← e) (be_more 0 bs h, (more_is 0 bs h).1)

pub part_bytes : (b : List ℕ) (p n : ℕ) → Bytes b → Bytes (part b p n)
unfolding part
part_bytes b p n h i = elim (dec_lt i n) [
  | yes l ↦ rw (get_or-take n (drop p b) i 0 l, get_or-drop p b i 0) (h (p + i))
  | no r ↦ rw (get_or-eq_default (take n (drop p b)) 0 {n = i} (rw length-take (omega arith))) (lit< tt)
]

-- The laws of `be`, `number`, `splice`, `part`, `ranged`, `keep` and `tabulate`. Those of `splice` have no side condition: what goes past the end is dropped.
-- Assumes nothing.
use mathlib.Core.Path.{◌≡◌, refl, sym, ap, ap₂, ◌∙◌}
use mathlib.Core.Bool.{Bool, true, false, cond}
use mathlib.Core.List.{List, [], ◌∷◌, ◌++◌, append_assoc}
use Prim.Native.Nat.{ℕ, zero, suc, ◌+◌, ◌-◌, ◌*◌, ◌/◌, ◌%◌, ◌^◌, ◌≤◌, ◌<◌}
use native.Mathlib.Nat.{add-zero, add_comm, suc-mul, add-suc, suc-add, mul-suc, mul-one, mod-one, div-one, mod-eq_of_lt, add-mul, mul_assoc, add_assoc, zero-mul, zero-add, pow-suc, pow-succ', pow-le-pow_right, one-le-pow, lt_of_lt_of_le}
use lib.Arith.{mod-mul, digits_lt}
use lib.Dec.{lit<}
use lib.Pow.{pow-add}
use native.Mathlib.Numerals.{add-one}
use native.Mathlib.Omega.{arith}
use lib.ListN.{length, length-take, take, drop, set, get_or, drop_of_length-le, length-set, length-append, get_or-append}
use lib.Seq.{sets, sets-eq, set_comm, set-set, drop-cons, drop_at, length-take-le, take_all, get_or-take, get_or-drop, take-append_seam, ext_get_or, get_or_at, get_or-set_same, get_or-set_other}
use native.Mathlib.Decide.{dec_lt, ℕ_discrete}
use Rattle.std.specs.Int.{w32, to_be_bytes}
use Rattle.wire.specs.Wire.{be, more, number, splice, part, ranged, keep, tabulate}

pub splice_nil : (xs : List ℕ) (at : ℕ) → splice xs at [] ≡ xs
unfolding splice
splice_nil xs at = refl

-- the first byte is stored, and the rest is spliced in after it
pub splice_cons : (xs : List ℕ) (at y : ℕ) (ys : List ℕ) → splice xs at (y ∷ ys) ≡ splice (set xs at y) (at + 1) ys
unfolding splice
splice_cons xs at y ys = rw add-one

pub length_splice : (xs : List ℕ) (at : ℕ) (ys : List ℕ) → length (splice xs at ys) ≡ length xs
unfolding splice
length_splice xs at [] = refl
length_splice xs at (y ∷ ys) = length_splice (set xs at y) (suc at) ys ∙ length-set xs at y

-- two parts, one after the other, are one splice of both
pub splice_append : (xs : List ℕ) (at : ℕ) (ys zs : List ℕ) → splice xs at (ys ++ zs) ≡ splice (splice xs at ys) (at + length ys) zs
unfolding splice
splice_append xs at [] zs = rw add-zero
splice_append xs at (y ∷ ys) zs = rw (add-suc, ← suc-add at (length ys)) (splice_append (set xs at y) (suc at) ys zs)

-- stores that do not meet may change places, and a part that is written over whole might as well not have been there
set_splice : (xs : List ℕ) (i x j : ℕ) (ys : List ℕ) → i < j → splice (set xs i x) j ys ≡ set (splice xs j ys) i x
unfolding splice
set_splice xs i x j [] h = refl
set_splice xs i x j (y ∷ ys) h =
    ap (λ (l : List ℕ). splice l (suc j) ys) (set_comm xs i j x y (λ e. absurd (omega arith))) ∙ set_splice (set xs j y) i x (suc j) ys (omega arith)

pub splice_splice : (xs : List ℕ) (i : ℕ) (ys : List ℕ) (j : ℕ) (zs : List ℕ) → i + length ys ≤ j → splice (splice xs i ys) j zs ≡ splice (splice xs j zs) i ys
unfolding splice
splice_splice xs i [] j zs h = refl
splice_splice xs i (y ∷ ys) j zs h =
    splice_splice (set xs i y) (suc i) ys j zs (omega arith) ∙ ap (λ (l : List ℕ). splice l (suc i) ys) (set_splice xs i y j zs (omega arith))

splice_over : (xs : List ℕ) (i : ℕ) (ys zs : List ℕ) → length ys ≡ length zs → splice (splice xs i ys) i zs ≡ splice xs i zs
unfolding splice
splice_over xs i [] zs h = refl
splice_over xs i (y ∷ ys) [] h = absurd (omega arith)
splice_over xs i (y ∷ ys) (z ∷ zs) h =
    ap (λ (l : List ℕ). splice l (suc i) zs) (sym (set_splice (set xs i y) i z (suc i) ys (omega arith)) ∙ ap (λ (l : List ℕ). splice l (suc i) ys) (set-set xs i y z))
    ∙ splice_over (set xs i z) (suc i) ys zs (omega arith)

-- what was written too much before a part, of bytes that are still to come, does not show in the end
pub splice_behind : (xs : List ℕ) (at : ℕ) (a b junk ys : List ℕ) → length junk ≡ length b
    → splice (splice xs (at + length a) (junk ++ ys)) at (a ++ b) ≡ splice xs at ((a ++ b) ++ ys)
splice_behind xs at a b junk ys h =
    let q = at + length a in
    let r = at + length (a ++ b) in
    let e : q + length junk ≡ r = simp length-append (omega (arith, h)) in
    ap (λ (l : List ℕ). splice l at (a ++ b)) (splice_append xs q junk ys ∙ ap (λ (k : ℕ). splice (splice xs q junk) k ys) e)
    ∙ sym (splice_splice (splice xs q junk) at (a ++ b) r ys (omega arith))
    ∙ ap (λ (l : List ℕ). splice l r ys)
    (splice_append (splice xs q junk) at a b
    ∙ ap (λ (l : List ℕ). splice l q b) (sym (splice_splice xs at a q junk (omega arith)))
    ∙ splice_over (splice xs at a) q junk b h
    ∙ sym (splice_append xs at a b))
    ∙ sym (splice_append xs at (a ++ b) ys)

-- with room, the definition in one line
splice_sets : (xs : List ℕ) (at : ℕ) (ys : List ℕ) → splice xs at ys ≡ sets xs at ys
unfolding splice
splice_sets xs at [] = refl
splice_sets xs at (y ∷ ys) = splice_sets (set xs at y) (suc at) ys

pub splice_is : (xs : List ℕ) (at : ℕ) (ys : List ℕ) → at + length ys ≤ length xs → splice xs at ys ≡ take at xs ++ (ys ++ drop (at + length ys) xs)
splice_is xs at ys h = splice_sets xs at ys ∙ sets-eq ys xs at h ∙ append_assoc (take at xs) ys (drop (at + length ys) xs)

pub length_be : (w v : ℕ) → length (be w v) ≡ w
unfolding be
length_be zero v = refl
length_be (suc w) v = ap suc (length_be w v)

-- the low bytes of a number stand last among its bytes
pub be_low : (k w v : ℕ) → drop k (be (k + w) v) ≡ be w v
unfolding be
be_low zero w v = rw zero-add
be_low (suc k) w v = rw (suc-add k w) (be_low k w v)

-- what the library's `to_be_bytes` gives
pub be_is : (v : ℕ) → to_be_bytes w32 v ≡ be 4 v
unfolding be
be_is v = rw div-one

-- the last of a number's four bytes
pub be_last : (w v : ℕ) → w ≤ 4 → take (4 - (4 - w)) (drop (4 - w) (be 4 v)) ≡ be w v
be_last w v h =
    let e : 4 - w + w ≡ 4 = omega arith in
    let low : drop (4 - w) (be 4 v) ≡ be w v = rw e at (be_low (4 - w) w v) in
    rw low (take_all (4 - (4 - w)) (be w v) (rw length_be (omega arith)))

pub pow_8 : (w : ℕ) → 2 ^ (8 * w) ≡ 256 ^ w
pow_8 zero = refl
pow_8 (suc w) = rw (mul-suc, pow-add 2 (8 * w) 8, pow-suc 256 w, pow_8 w)

-- a loop over a list: one turn, and its end
pub rest_step : (i : ℕ) (src : List ℕ) → i < length src → drop i src ≡ (get_or src i 0 ∷ []) ++ drop (i + 1) src
rest_step i src h = rw (drop-cons src i 0 h, add-one)

-- parts of one size, as far as they are taken, and all of them
pub length_ranged_below : {A : Type 0} (f : ℕ → List A) (s i n : ℕ) → ((j : ℕ) → j < i + n → length (f j) ≡ s) → length (ranged f i n) ≡ n * s
unfolding ranged
length_ranged_below f s i zero h = rw zero-mul
length_ranged_below f s i (suc n) h =
    let rest = length_ranged_below f s (i + 1) n (λ j l. h j (omega arith)) in
    simp (length-append, h i (omega arith), rest, suc-mul) (add_comm s (n * s))

pub length_ranged : {A : Type 0} (f : ℕ → List A) (s : ℕ) → ((j : ℕ) → length (f j) ≡ s) → (i n : ℕ) → length (ranged f i n) ≡ n * s
length_ranged f s h i n = length_ranged_below f s i n (λ j l. h j)

-- ranges of the same parts
pub ranged_same : {A : Type 0} (f g : ℕ → List A) (i n : ℕ) → ((j : ℕ) → i ≤ j → j < i + n → f j ≡ g j) → ranged f i n ≡ ranged g i n
unfolding ranged
ranged_same f g i zero h = refl
ranged_same f g i (suc n) h = ap₂ (λ (a b : List _). a ++ b) (h i (omega arith) (omega arith)) (ranged_same f g (i + 1) n (λ j l k. h j (omega arith) (omega arith)))

-- what is kept where a test holds
pub length_kept : {A : Type 0} (b : Bool) (xs : List A) (n : ℕ) → (b ≡ true → length xs ≡ n) → length (keep b xs) ≡ cond b n 0
unfolding keep
length_kept true xs n h = h refl
length_kept false xs n h = refl

-- a byte that is kept only where a test holds: its width is 1 or 0
pub byte_if : {w : ℕ} (on : Bool) (x : ℕ) → w ≡ cond on 1 0 → keep on (be 1 x) ≡ be w x
unfolding keep be
byte_if true x e = rw e
byte_if false x e = rw e

-- ---- reading back

more_be : (a w v : ℕ) → more a (be w v) ≡ a * 256 ^ w + v % 256 ^ w
unfolding more be
more_be a zero v = rw (mul-one, mod-one, add-zero)
more_be a (suc w) v =
    more_be (a * 256 + v / 256 ^ w % 256) w v
    ∙ rw (pow-succ' 256 w, mod-mul v {m = 256} {c = 256 ^ w} (lit< tt) (one-le-pow w 256 (lit< tt)), add-mul, mul_assoc, add_assoc)

-- the number that the bytes of v make is v
pub number_be : (w v : ℕ) → v < 256 ^ w → number (be w v) ≡ v
number_be w v h = more_be 0 w v ∙ rw (zero-mul, zero-add) (mod-eq_of_lt h)

-- a loop over a number's bytes: one turn, and its end; and what it has read is small
pub get_step : (n i : ℕ) (bytes : List ℕ) → i < length bytes → more (n * 256 + get_or bytes i 0) (drop (i + 1) bytes) ≡ more n (drop i bytes)
unfolding more
get_step n i bytes h = rw (drop-cons bytes i 0 h, add-one)

pub get_done : (n i : ℕ) (bytes : List ℕ) → length bytes ≤ i → n ≡ more n (drop i bytes)
unfolding more
get_done n i bytes h = rw (drop_of_length-le bytes h)

-- an element of a part
pub get_in : (s : List ℕ) (at n i : ℕ) → i < n → get_or (take n (drop at s)) i 0 ≡ get_or s (at + i) 0
get_in s at n i h = get_or-take n (drop at s) i 0 h ∙ get_or-drop at s i 0

pub part_below : (s : List ℕ) (n i : ℕ) → i < length (take n s) → i < n
part_below s n i h = omega (arith, h, length-take n s)

-- a part by where it begins and ends
pub part_here : (s : List ℕ) (at n : ℕ) → number (take (at + n - at) (drop at s)) ≡ number (part s at n)
unfolding part
part_here s at n = let e : at + n - at ≡ n = omega arith in rw e

pub get_small : (n i : ℕ) → n < 256 ^ i → i < 4 → n < 256 ^ 3
get_small n i h k = lt_of_lt_of_le h (pow-le-pow_right {n = 256} (lit< tt) {i = i} {j = 3} (omega arith))

pub get_more : (n i b : ℕ) → n < 256 ^ i → b < 256 → n * 256 + b < 256 ^ (i + 1)
get_more n i b h k = rw (add-one, pow-suc) (digits_lt h k)

-- two bytes as one number
pub pair_is : (s : List ℕ) (at : ℕ) → at + 1 < length s → get_or s at 0 * 256 + get_or s (at + 1) 0 ≡ number (part s at 2)
unfolding more part
pair_is s at h =
    let l : at < length s = omega arith in
    let m : suc at < length s = omega arith in
    rw (drop-cons s at 0 l, drop-cons s (suc at) 0 m, add-one) (omega arith)

-- what was put is there, with room
pub part_splice : (xs : List ℕ) (at : ℕ) (ys : List ℕ) → at + length ys ≤ length xs → part (splice xs at ys) at (length ys) ≡ ys
unfolding part
part_splice xs at ys h =
    rw (splice_is xs at ys h, drop_at (take at xs) (ys ++ drop (at + length ys) xs) at (length-take-le at xs (omega arith)), take-append_seam)

pub get_put : (xs : List ℕ) (at w v : ℕ) → v < 256 ^ w → at + w ≤ length xs → number (part (splice xs at (be w v)) at w) ≡ v
get_put xs at w v h k =
    let e = part_splice xs at (be w v) (rw length_be k) in
    ap number (rw length_be at e) ∙ number_be w v h

-- ---- lists given by their elements
module _ {A : Type 0} where
  pub tabulate_length : (n : ℕ) (f : ℕ → A) → length (tabulate n f) ≡ n
  unfolding tabulate
  tabulate_length zero f = refl
  tabulate_length (suc n) f = simp length-append (omega (arith, tabulate_length n f))

  pub tabulate_at : (d : A) (n : ℕ) (f : ℕ → A) (k : ℕ) → k < n → get_or (tabulate n f) k d ≡ f k
  unfolding tabulate
  tabulate_at d zero f k h = absurd (omega arith)
  tabulate_at d (suc n) f k h =
      elim (dec_lt k n) [
        | yes l ↦ get_or-append (tabulate n f) (f n ∷ []) d k (omega (arith, tabulate_length n f)) ∙ tabulate_at d n f k l
        | no r ↦ let e : k ≡ n = omega arith in get_or_at (tabulate n f) (f n) [] d k (omega (arith, tabulate_length n f)) ∙ ap f (sym e)
      ]

  pub tabulate_suc : (n : ℕ) (f : ℕ → A) → tabulate (n + 1) f ≡ tabulate n f ++ (f n ∷ [])
  unfolding tabulate
  tabulate_suc n f = rw add-one

  pub tabulate_ext : (n : ℕ) (f g : ℕ → A) → ((k : ℕ) → k < n → f k ≡ g k) → tabulate n f ≡ tabulate n g
  unfolding tabulate
  tabulate_ext zero f g h = refl
  tabulate_ext (suc n) f g h = ap₂ (λ (l : List A) (x : A). l ++ (x ∷ [])) (tabulate_ext n f g (λ k l. h k (omega arith))) (h n (omega arith))

  -- a list whose elements are f's is the table
  pub tabulated : (d : A) (l : List A) (n : ℕ) (f : ℕ → A) → length l ≡ n → ((k : ℕ) → k < n → get_or l k d ≡ f k) → l ≡ tabulate n f
  tabulated d l n f e h =
      ext_get_or d l (tabulate n f) (e ∙ sym (tabulate_length n f))
      (λ k lt. let below : k < n = omega (arith, e) in h k below ∙ sym (tabulate_at d n f k below))

  -- a store at i makes the element at i right, and leaves those that are right already
  pub stored : (d : A) (l : List A) (i : ℕ) (v : A) (f : ℕ → A) (j : ℕ) → i < length l → v ≡ f i → ((j ≡ i → ⊥) → get_or l j d ≡ f j) → get_or (set l i v) j d ≡ f j
  stored d l i v f j h e other =
      elim (ℕ_discrete j i) [
        | yes q ↦ rw q (get_or-set_same l i v d h ∙ e)
        | no q ↦ get_or-set_other l i j v d q ∙ other q
      ]

-- Bytes in place: a number's big-endian bytes, the number that bytes make, and a list with some of its elements replaced.
-- Assumes nothing.
use Rattle.std.specs.Prelude.{ℕ, zero, suc, ◌+◌, ◌*◌, ◌/◌, ◌%◌, ◌^◌, ◌≤◌, List, [], ◌∷◌, ◌++◌, ◌≡◌, Bool, true, false, length, set, take, drop}

-- the w low bytes of v, the highest first
unfoldable pub be : ℕ → ℕ → List ℕ
be zero v = []
be (suc w) v = v / 256 ^ w % 256 ∷ be w v

-- the number whose bytes, the highest first, are those of a and then these
unfoldable pub more : ℕ → List ℕ → ℕ
more a [] = a
more a (b ∷ bs) = more (a * 256 + b) bs

-- the number that bytes make, the highest first
abbrev pub number : List ℕ → ℕ
number bs = more 0 bs

-- xs with ys stored over it from index at on; what would go past its end is dropped
unfoldable pub splice : List ℕ → ℕ → List ℕ → List ℕ
splice xs at [] = xs
splice xs at (y ∷ ys) = splice (set xs at y) (suc at) ys

-- the n elements of xs from index at on
unfoldable pub part : List ℕ → ℕ → ℕ → List ℕ
part xs at n = take n (drop at xs)

-- f i, f (i + 1), .. one after the other, n of them
unfoldable pub ranged : {A : Type 0} → (ℕ → List A) → ℕ → ℕ → List A
ranged f i zero = []
ranged f i (suc n) = f i ++ ranged f (i + 1) n

-- the elements, or none
unfoldable pub keep : {A : Type 0} → Bool → List A → List A
keep true xs = xs
keep false xs = []

-- f 0, f 1, .., f (n - 1)
unfoldable pub tabulate : {A : Type 0} → ℕ → (ℕ → A) → List A
tabulate zero f = []
tabulate (suc n) f = tabulate n f ++ (f n ∷ [])

-- what a writer needs: `bytes` go into `out` from index at on
pub record Room (out : List ℕ) (at : ℕ) (bytes : List ℕ) : Type 0 where
  pub fits : at + length bytes ≤ length out

-- what a writer promises: `bytes` went over `before` from index at on, which gave `after`, and next is the index after them
pub record Wrote (before after : List ℕ) (at next : ℕ) (bytes : List ℕ) : Type 0 where
  pub next_is : next ≡ at + length bytes
  pub after_is : after ≡ splice before at bytes

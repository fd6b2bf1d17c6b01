-- The laws of the lowest refusal: one line for each test that a judge passes or stops at, and what is known where it passes them all.
-- Assumes nothing.
use mathlib.Core.Path.{◌≡◌, refl}
use mathlib.Core.Bool.{Bool, true, false, cond}
use mathlib.Core.List.{List, [], ◌∷◌, ◌++◌}
use Prim.Native.Nat.{ℕ, suc, ◌<◌}
use native.Mathlib.Omega.{arith}
use Rattle.format.specs.Refusal.{Refusal, refuse, lowest}

-- a test that does not hold is passed
pub skip : (n r : ℕ) (b : Bool) (rs : List Refusal) → b ≡ false → r ≡ lowest rs → r ≡ lowest (refuse n b ∷ rs)
unfolding lowest
skip n r b rs e h = rw e h

-- the first that holds gives its number
pub here : (n : ℕ) (b : Bool) (rs : List Refusal) → b ≡ true → n ≡ lowest (refuse n b ∷ rs)
unfolding lowest
here n b rs e = rw e

pub none : 0 ≡ lowest []
unfolding lowest
none = refl

suc_zero : (k : ℕ) → suc k ≡ 0 → ⊥
suc_zero k e = omega arith

-- where none holds, the first does not, and none of the others
pub passed : (n : ℕ) (b : Bool) (rs : List Refusal) → lowest (refuse (suc n) b ∷ rs) ≡ 0 → (b ≡ false) × (lowest rs ≡ 0)
unfolding lowest
passed n true rs e = absurd (suc_zero n e)
passed n false rs e = (refl, e)

-- ---- refusals that come after others
-- no number is 0, so that an answer of 0 says that none applies
unfoldable pub Numbered : List Refusal → Type 0
Numbered [] = Unit {0}
Numbered (r ∷ rs) = (0 < r.number) × Numbered rs

positive : (n : ℕ) → 0 < n → n ≡ 0 → ⊥
positive n h e = omega arith

-- where none of the first applies, the others decide
pub lowest_after : (rs ts : List Refusal) → Numbered rs → lowest rs ≡ 0 → lowest (rs ++ ts) ≡ lowest ts
unfolding lowest Numbered
lowest_after [] ts n e = refl
lowest_after (r ∷ rs) ts n e = go r.applies e (λ z. lowest_after rs ts n.1 z)
  where
    go : (b : Bool) → cond b r.number (lowest rs) ≡ 0 → (lowest rs ≡ 0 → lowest (rs ++ ts) ≡ lowest ts) → cond b r.number (lowest (rs ++ ts)) ≡ lowest ts
    go true z rest = absurd (positive r.number n.0 z)
    go false z rest = rest z

-- where one of the first applies, it decides
pub lowest_before : (rs ts : List Refusal) → (lowest rs ≡ 0 → ⊥) → lowest (rs ++ ts) ≡ lowest rs
unfolding lowest
lowest_before [] ts h = absurd (h refl)
lowest_before (r ∷ rs) ts h = go r.applies h (λ z. lowest_before rs ts z)
  where
    go : (b : Bool) → (cond b r.number (lowest rs) ≡ 0 → ⊥) → ((lowest rs ≡ 0 → ⊥) → lowest (rs ++ ts) ≡ lowest rs) → cond b r.number (lowest (rs ++ ts)) ≡ cond b r.number (lowest rs)
    go true z rest = refl
    go false z rest = rest z

-- where none applies, none of the first does
pub lowest_first : (rs ts : List Refusal) → lowest (rs ++ ts) ≡ 0 → lowest rs ≡ 0
unfolding lowest
lowest_first [] ts e = refl
lowest_first (r ∷ rs) ts e = go r.applies e (λ z. lowest_first rs ts z)
  where
    go : (b : Bool) → cond b r.number (lowest (rs ++ ts)) ≡ 0 → (lowest (rs ++ ts) ≡ 0 → lowest rs ≡ 0) → cond b r.number (lowest rs) ≡ 0
    go true z rest = z
    go false z rest = rest z

-- ---- the lowest is below what every number is below
unfoldable pub Below : ℕ → List Refusal → Type 0
Below n [] = 0 < n
Below n (r ∷ rs) = (r.number < n) × Below n rs

pub lowest_below : (n : ℕ) (rs : List Refusal) → Below n rs → lowest rs < n
unfolding lowest Below
lowest_below n [] b = b
lowest_below n (r ∷ rs) b = go r.applies (lowest_below n rs b.1)
  where
    go : (x : Bool) → lowest rs < n → cond x r.number (lowest rs) < n
    go true h = b.0
    go false h = h

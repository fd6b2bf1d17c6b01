-- Tests that are joined.
-- Assumes nothing.
use mathlib.Core.Path.{◌≡◌, refl}
use mathlib.Core.Bool.{Bool, true, false, cond, ◌&&◌, ◌||◌}
use mathlib.Core.Option.{Option, none, some, none-ne-some}
use Prim.Native.Nat.{ℕ}
use native.Mathlib.Omega.{arith}

pub both : (a b : Bool) → a && b ≡ true → (a ≡ true) × (b ≡ true)
both true b e = (refl, e)
both false b e = let z : ◌≡◌ {A = ℕ} 0 1 = cc in absurd (omega arith)

pub data Or (a b : Bool) : Type 0 where
  left_is : a ≡ true → Or a b
  right_is : b ≡ true → Or a b

pub either : (a b : Bool) → a || b ≡ true → Or a b
either true b e = left_is refl
either false b e = right_is e

pub or_true : (a b : Bool) → b ≡ true → a || b ≡ true
or_true true b e = refl
or_true false b e = e

-- an option that is there under a test
pub taken : {A : Type 0} (b : Bool) (x : Option A) (t : A) → cond b x none ≡ some t → (b ≡ true) × (x ≡ some t)
taken true x t e = (refl, e)
taken false x t e = absurd (none-ne-some t e)

-- The laws of comparing versions.
-- Assumes nothing.
use mathlib.Core.Path.{◌≡◌, refl, sym}
use mathlib.Core.Bool.{Bool, true, false}
use Prim.Native.Nat.{ℕ, ◌≤◌, ◌<◌}
use native.Mathlib.Omega.{arith}
use mathlib.Core.Logic.{◌⊎◌, inl, inr}
use lib.Dec.{T, ltb, leb, eqb}
use borrow.Author.Tests.{lt-ltb, le-ltb, lt-leb, le-leb, eq-eqb, ne_eqb, ltb-true, ltb-false, leb-true, leb-false, eqb-true, eqb-false}
use native.Mathlib.Decide.{dec_lt}
use Rattle.std.specs.Prelude.{Option, Some}
use Rattle.std.specs.declared.cmp.Ordering.{Ordering}
use Rattle.std.specs.Ordering.{is_le, is_some_and, nat_cmp, partial_ordering_then}
use Rattle.format.specs.Version.{above, gte_of}
use Rattle.format.specs.declared.version.Version.{Version}

pub is_above : (a b : ℕ) (rest : Bool) → b < a → true ≡ above a b rest
unfolding above
is_above a b rest h = rw (lt-ltb b a h)

pub is_same : (a b : ℕ) (r rest : Bool) → b ≤ a → a ≤ b → r ≡ rest → r ≡ above a b rest
unfolding above
is_same a b r rest h k e = rw (le-ltb b a k, eq-eqb a b (omega arith)) e

-- what is compared first decides, and then the rest does
pub le_first : (a b : ℕ) (r : Option Ordering) (rest : Bool) → is_some_and is_le r ≡ rest → is_some_and is_le (partial_ordering_then (Some (nat_cmp b a)) r) ≡ above a b rest
unfolding above
le_first a b r rest e =
    elim (dec_lt b a) [
      | yes l ↦ rw (lt-ltb b a l)
      | no l ↦
          elim (dec_lt a b) [
            | yes m ↦ rw (le-ltb b a (omega arith), ne_eqb b a (λ q. absurd (omega arith)), ne_eqb a b (λ q. absurd (omega arith)))
            | no m ↦ let q : b ≡ a = omega arith in rw (le-ltb b a (omega arith), eq-eqb b a q, eq-eqb a b (sym q)) e
          ]
    ]

pub le_last : (a b : ℕ) → is_some_and is_le (Some (nat_cmp b a)) ≡ leb b a
le_last a b =
    elim (dec_lt b a) [
      | yes l ↦ rw (lt-ltb b a l, le-leb b a (omega arith))
      | no l ↦
          elim (dec_lt a b) [
            | yes m ↦ rw (le-ltb b a (omega arith), ne_eqb b a (λ q. absurd (omega arith)), lt-leb b a m)
            | no m ↦ let q : b ≡ a = omega arith in rw (le-ltb b a (omega arith), eq-eqb b a q, le-leb b a (omega arith))
          ]
    ]

pub is_true : (b : Bool) → T b → b ≡ true
is_true true t = refl
is_true false t = absurd t

pub no_way {ℓ} : {A : Type ℓ} → false ≡ true → A
no_way p = let z : ◌≡◌ {A = ℕ} 0 1 = cc in absurd (omega arith)

-- the test as facts on numbers, one way and the other
pub gte_holds : (v : Version) (a b : ℕ) → gte_of v a b ≡ true → (a < v.major) ⊎ ((v.major ≡ a) × (b ≤ v.minor))
unfolding gte_of above
gte_holds v a b p = go (ltb a v.major) refl (eqb v.major a) refl
  where
    go : (s : Bool) → ltb a v.major ≡ s → (t : Bool) → eqb v.major a ≡ t → (a < v.major) ⊎ ((v.major ≡ a) × (b ≤ v.minor))
    go true x t y = inl (ltb-true a v.major x)
    go false x true y = inr (eqb-true v.major a y, leb-true b v.minor (rw (x, y) at p))
    go false x false y = no_way (rw (x, y) at p)

pub gte_fails : (v : Version) (a b : ℕ) → gte_of v a b ≡ false → (v.major ≤ a) × (v.major ≡ a → v.minor < b)
unfolding gte_of above
gte_fails v a b p = go (ltb a v.major) refl (eqb v.major a) refl
  where
    go : (s : Bool) → ltb a v.major ≡ s → (t : Bool) → eqb v.major a ≡ t → (v.major ≤ a) × (v.major ≡ a → v.minor < b)
    go true x t y = no_way (sym (rw x at p))
    go false x true y = (ltb-false a v.major x, λ e. leb-false b v.minor (rw (x, y) at p))
    go false x false y = (ltb-false a v.major x, λ e. absurd (eqb-false v.major a y e))

pub gte_below : (v : Version) (a b : ℕ) → v.major ≤ a → (v.major ≡ a → v.minor < b) → gte_of v a b ≡ false
unfolding gte_of above
gte_below v a b h k = go (eqb v.major a) refl
  where
    go : (t : Bool) → eqb v.major a ≡ t → gte_of v a b ≡ false
    go true y = rw (le-ltb a v.major h, y, lt-leb b v.minor (k (eqb-true v.major a y)))
    go false y = rw (le-ltb a v.major h, y)

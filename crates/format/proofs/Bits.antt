-- Signed numbers by their bits, and an id's place.
-- Assumes nothing.
use mathlib.Core.Path.{◌≡◌, sym, ◌∙◌}
use mathlib.Core.Bool.{true, false}
use Prim.Native.Nat.{ℕ, suc, ◌-◌, ◌^◌, ◌≤◌, ◌<◌}
use native.Mathlib.Omega.{arith}
use borrow.Author.Tests.{le-ltb, ltb-false, lt-ltb}
use lib.IntN.{ℤ, pos, negsuc, ◌+ℤ◌, ◌-ℤ◌}
use lib.Signed.{lt_z}
use native.Mathlib.Decide.{dec_lt}
use native.Mathlib.Nat.{suc-sub-suc}
use mir.Facts.{to_z_pos, to_z-of_z}
use mir.Syntax.{Width}
use mir.Val.{to_z, of_z, SFits, bits, hbits}
use Rattle.format.specs.FrameId.{place_of}

pub low : (z : ℤ) → lt_z z (negsuc 122) ≡ true → 1048576 ≡ place_of z
unfolding place_of
low (pos n) e = cc
low (negsuc n) e = rw e

pub high : (z : ℤ) → lt_z (pos 1048452) z ≡ true → 1048576 ≡ place_of z
unfolding place_of
high (pos n) e = rw e
high (negsuc n) e = cc

pub sum : (z : ℤ) → lt_z z (negsuc 122) ≡ false → lt_z (pos 1048452) z ≡ false → (z +ℤ pos 123 ≡ pos (place_of z)) × (place_of z ≤ 1048575)
unfolding place_of
sum (pos n) l h = (rw h, rw h (omega (arith, ltb-false 1048452 n h)))
sum (negsuc n) l h =
    let b = ltb-false 122 n l in
    let e : 123 - suc n ≡ 122 - n = omega arith in
    (rw (l, le-ltb 123 (suc n) (omega arith), e), rw l (omega arith))

pub at_most : (r : ℕ) (z : ℤ) → r ≡ place_of z → r ≤ 1048576
unfolding place_of
at_most r (pos n) e = elim (dec_lt 1048452 n) [ yes l ↦ omega (arith, rw (lt-ltb 1048452 n l) at e) | no l ↦ omega (arith, rw (le-ltb 1048452 n (omega arith)) at e) ]
at_most r (negsuc n) e = elim (dec_lt 122 n) [ yes l ↦ omega (arith, rw (lt-ltb 122 n l) at e) | no l ↦ omega (arith, rw (le-ltb 122 n (omega arith)) at e) ]

-- ---- a number of k bits, taken k bits down: one law for each width w that it is read at, by way of a wider W
module _ (W w : Width) (b j : ℕ) (wide : b < 2 ^ hbits W) (under : b < suc j) where
  pub down : to_z W b -ℤ pos (suc j) ≡ negsuc (j - b)
  down = rw (to_z_pos W wide, lt-ltb b (suc j) under, suc-sub-suc)

  pub down_fits : j - b < 2 ^ hbits W → SFits W (to_z W b -ℤ pos (suc j))
  down_fits h = rw down (record { sfits = h })

  pub down_back : j - b < 2 ^ hbits W → to_z W (of_z W (to_z W b -ℤ pos (suc j))) ≡ negsuc (j - b)
  down_back h = rw down (to_z-of_z {w = W} {z = negsuc (j - b)} (record { sfits = h }))

  pub down_cast : j - b < 2 ^ hbits W → j - b < 2 ^ hbits w → SFits w (to_z W (of_z W (to_z W b -ℤ pos (suc j))))
  down_cast h l = rw (down_back h) (record { sfits = l })

  pub down_is : j - b < 2 ^ hbits W → j - b < 2 ^ hbits w → 2 ^ bits w ≡ suc j → 2 ^ hbits w ≤ b → to_z w (of_z w (to_z W (of_z W (to_z W b -ℤ pos (suc j))))) ≡ to_z w b
  down_is h l e n =
      rw (down_back h) (to_z-of_z {w = w} {z = negsuc (j - b)} (record { sfits = l }) ∙ sym (rw (le-ltb b (2 ^ hbits w) n, e, suc-sub-suc)))

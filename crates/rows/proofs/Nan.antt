-- The test of a NaN's pattern, by one comparison, and what it says of the float.
-- Assumes nothing.
use mathlib.Core.Path.{◌≡◌, refl, sym, ◌∙◌}
use mathlib.Core.Bool.{true, false}
use Prim.Native.Nat.{ℕ, ◌%◌, ◌<◌, ◌≤◌}
use borrow.Author.Tests.{lt-ltb, le-ltb}
use lib.Dec.{lit<}
use lib.Ieee.{Float, nan, inf, fin, binary32, of_bits, to_bits, nan_bits, is_nan, div}
use lib.Ieee.Bits.{nan_bits_above, nan_bits_is, to_bits-of_bits}

is_nan_lem : (v : Float) → is_nan v ≡ true → v ≡ nan
unfolding is_nan
is_nan_lem nan e = refl
is_nan_lem (inf s) e = cc
is_nan_lem (fin s m k) e = cc

-- what the code computes for a NaN
pub nan_made : div binary32 (of_bits binary32 0) (of_bits binary32 0) ≡ nan
unfolding div of_bits
nan_made = refl

module _ (n : ℕ) where
  -- a NaN's pattern is the NaN, whatever its payload
  pub above : 0x7f80_0000 < n % 0x8000_0000 → of_bits binary32 n ≡ nan
  above h = is_nan_lem (of_bits binary32 n) (sym (nan_bits_is binary32 n) ∙ nan_bits_above binary32 n ∙ lt-ltb 0x7f80_0000 (n % 0x8000_0000) h)

  pub not_above : n % 0x8000_0000 ≤ 0x7f80_0000 → nan_bits binary32 n ≡ false
  not_above h = nan_bits_above binary32 n ∙ le-ltb 0x7f80_0000 (n % 0x8000_0000) h

  -- of every other pattern the bits come back: the law that a row's readers use
  pub bits_back : n < 0x1_0000_0000 → nan_bits binary32 n ≡ false → to_bits binary32 (of_bits binary32 n) ≡ n
  bits_back h e = to_bits-of_bits binary32 n h (rw (sym (nan_bits_is binary32 n), e) tt)

-- a NaN's pattern does not come back: 7f800001 is the one NaN, whose bits are 7fc00000
pub other_nan : (of_bits binary32 0x7f80_0001 ≡ nan) × (to_bits binary32 nan ≡ 0x7fc0_0000)
unfolding to_bits
other_nan = (above 0x7f80_0001 (lit< tt), refl)

-- The spans of a version's events.
-- Assumes nothing.
use mathlib.Core.Path.{◌≡◌, refl, sym, ap, ap₂, ◌∙◌}
use mathlib.Core.Bool.{Bool, true, false, cond, ◌&&◌}
use mathlib.Core.List.{List}
use Prim.Native.Nat.{ℕ, ◌+◌, ◌^◌, ◌<◌}
use native.Mathlib.Omega.{arith}
use borrow.Author.Tests.{ne_eqb}
use lib.Dec.{eqb}
use lib.ListN.{length, get_or}
use Rattle.format.specs.declared.version.Version.{Version}
use Rattle.layout.specs.Columns.{has_family}
use Rattle.layout.specs.Payloads.{record_size}
use Rattle.layout.specs.declared.columns.Family.{Family}
use Rattle.layout.specs.declared.columns.Family.TheVariants.{Pre, Post, FrameStart, Item, FrameEnd, FodPlatform, DreamlandWhispy, StadiumTransformation}
use Rattle.read_scan.specs.Inner.{span_in, sizes_in, index_of}

module _ (v : Version) (family : Family) where
  pub span_has : (b : Bool) (r : ℕ) → b ≡ has_family v family → b ≡ true → r ≡ record_size family v → 1 + r ≡ span_in v family
  unfolding span_in
  span_has b r x y z = rw (z, sym x ∙ y)

  pub span_lacks : (b : Bool) → b ≡ has_family v family → b ≡ false → 2 ^ 32 ≡ span_in v family
  unfolding span_in
  span_lacks b x y = rw (sym x ∙ y)

size_is : (v : Version) (family : Family) → get_or (sizes_in v) (index_of family) 0 ≡ span_in v family
size_is v Pre = refl
size_is v Post = refl
size_is v FrameStart = refl
size_is v Item = refl
size_is v FrameEnd = refl
size_is v FodPlatform = refl
size_is v DreamlandWhispy = refl
size_is v StadiumTransformation = refl

module _ (v : Version) (family : Family) (n : ℕ) where
  pub fits_as : (sizes : List ℕ) → sizes ≡ sizes_in v → n < 2 ^ 32 → (i : ℕ) → i ≡ index_of family → eqb n (get_or sizes i 0) ≡ (has_family v family && eqb n (1 + record_size family v))
  unfolding span_in
  fits_as sizes e low i i-is = ap (eqb n) (ap₂ (λ (l : List ℕ) (k : ℕ). get_or l k 0) e i-is ∙ size_is v family) ∙ go (has_family v family)
    where
      go : (b : Bool) → eqb n (cond b (1 + record_size family v) (2 ^ 32)) ≡ (b && eqb n (1 + record_size family v))
      go true = refl
      go false = ne_eqb n (2 ^ 32) (λ x. omega arith)

  pub eight : (sizes : List ℕ) → sizes ≡ sizes_in v → length sizes ≡ 8
  eight sizes e = ap length e

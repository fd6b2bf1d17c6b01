-- A newer version of major 3 has 3.18's families, widths and sizes.
-- Assumes nothing.
use Prim.Native.Nat.{ℕ, ◌≤◌}
use mathlib.Core.Path.{◌≡◌, refl, sym, ap, ◌∙◌}
use mathlib.Core.Bool.{true}
use native.Mathlib.Omega.{arith}
use borrow.Author.Tests.{le-leb}
use lib.Dec.{leb, lit<, lit≤}
use lib.ListN.{length, take}
use Rattle.format.specs.Version.{above, gte_of}
use Rattle.format.specs.declared.version.Version.{Version}
use Rattle.layout.specs.Columns.{has_family, columns_of, chosen, sum, widths_of, size_of}
use Rattle.layout.specs.Payloads.{end_size}
use Rattle.layout.specs.declared.columns.Family.{Family}
use Rattle.layout.specs.declared.columns.Family.TheVariants.{Pre, Post, FrameStart, Item, FrameEnd, FodPlatform, DreamlandWhispy, StadiumTransformation}
use Rattle.layout.specs.Inner.{count_of}
use Rattle.layout.proofs.Prefix.{widths, prefix_of, at_most, last_had}
use Rattle.start.specs.Length.{length_of, reached}
use Rattle.known.specs.Known.{is_newer}
use Rattle.known.proofs.Newest.{newer_is, has_gate, has_family_lem}
use Rattle.law_known.specs.Made.{last}

-- 3.18.0 has every family
pub last_has : (family : Family) → has_family last family ≡ true
unfolding has_family gte_of above
last_has Pre = refl
last_has Post = refl
last_has FrameStart = refl
last_has Item = refl
last_has FrameEnd = refl
last_has FodPlatform = refl
last_has DreamlandWhispy = refl
last_has StadiumTransformation = refl

last_columns : (family : Family) → length (widths_of family last) ≡ count_of family
unfolding columns_of chosen gte_of above
last_columns Pre = refl
last_columns Post = refl
last_columns FrameStart = refl
last_columns Item = refl
last_columns FrameEnd = refl
last_columns FodPlatform = refl
last_columns DreamlandWhispy = refl
last_columns StadiumTransformation = refl

module _ (v : Version) (newer : is_newer v ≡ true) where
  three : v.major ≡ 3
  three = (newer_is v newer).0

  from : (b : ℕ) → b ≤ 18 → leb b v.minor ≡ true
  from b h = let late = (newer_is v newer).1 in le-leb b v.minor (omega arith)

  pub same_family : (family : Family) → has_family v family ≡ has_family last family
  same_family family = has_family_lem v newer family ∙ sym (last_has family)

  -- it has the last column of each family, and so all of them
  all_columns : (family : Family) → count_of family ≤ length (widths_of family v)
  unfolding columns_of
  all_columns Pre = last_had Pre v 18 (lit< tt) (has_gate v newer 17 (lit≤ tt))
  all_columns Post = last_had Post v 31 (lit< tt) (has_gate v newer 16 (lit≤ tt))
  all_columns FrameStart = last_had FrameStart v 1 (lit< tt) (has_gate v newer 10 (lit≤ tt))
  all_columns Item = last_had Item v 15 (lit< tt) (has_gate v newer 16 (lit≤ tt))
  all_columns FrameEnd = last_had FrameEnd v 0 (lit< tt) (has_gate v newer 7 (lit≤ tt))
  all_columns FodPlatform = last_had FodPlatform v 1 (lit< tt) (has_gate v newer 18 (lit≤ tt))
  all_columns DreamlandWhispy = last_had DreamlandWhispy v 0 (lit< tt) (has_gate v newer 18 (lit≤ tt))
  all_columns StadiumTransformation = last_had StadiumTransformation v 1 (lit< tt) (has_gate v newer 18 (lit≤ tt))

  pub same_widths : (family : Family) → widths_of family v ≡ widths_of family last
  same_widths family =
      let n : length (widths_of family v) ≡ length (widths_of family last) = omega (arith, all_columns family, at_most family v, last_columns family) in
      prefix_of family v ∙ ap (λ (k : ℕ). take k (widths (columns_of family))) n ∙ sym (prefix_of family last)

  pub same_size : (family : Family) → size_of family v ≡ size_of family last
  same_size family = ap sum (same_widths family)

  -- an end's size, and a start block's least length
  pub same_end : end_size v ≡ end_size last
  unfolding end_size gte_of above
  same_end = rw (three, from 13 (omega arith))

  pub same_length : length_of v ≡ length_of last
  unfolding length_of reached gte_of above
  same_length = rw (three, from 14 (omega arith))

-- The bits of each float of a Pre, Post, Item and FodPlatform row are its record's cell, for each cell that is no NaN's pattern.
-- Assumes nothing.
use mathlib.Core.Path.{◌≡◌, ap, ◌∙◌}
use mathlib.Core.Bool.{false}
use mathlib.Core.List.{List, [], ◌∷◌, map}
use Prim.Native.Nat.{ℕ, ◌<◌}
use lib.Ieee.{Float, binary32, to_bits, nan_bits}
use lib.ListN.{get_or}
use Rattle.format.specs.declared.version.Version.{Version}
use Rattle.rows.specs.Parts.{float}
use Rattle.rows.specs.Rows.{pre_of, post_of, item_of, fod_platform_of}
use Rattle.rows.specs.declared.pre.Pre.{Pre}
use Rattle.rows.specs.declared.post.Post.{Post}
use Rattle.rows.specs.declared.item.Item.{Item}
use Rattle.rows.specs.declared.small.FodPlatform.{FodPlatform}
use Rattle.rows.proofs.Nan.{bits_back}

-- each float has the bits of its cell, or its cell is a NaN's pattern
unfoldable pub Exact : List Float → List ℕ → Type 0
Exact [] [] = Unit {0}
Exact (x ∷ xs) (n ∷ ns) = (nan_bits binary32 n ≡ false → to_bits binary32 x ≡ n) × Exact xs ns
Exact [] (n ∷ ns) = ⊥
Exact (x ∷ xs) [] = ⊥

-- the floats of a row, in column order
abbrev pub pre_floats : Pre → List Float
pre_floats r =
    r.position.x ∷ r.position.y ∷ r.direction ∷ r.joystick.x ∷ r.joystick.y ∷ r.cstick.x ∷ r.cstick.y ∷ r.triggers
    ∷ r.triggers_physical.l ∷ r.triggers_physical.r ∷ r.percent ∷ []

abbrev pub post_floats : Post → List Float
post_floats r =
    r.position.x ∷ r.position.y ∷ r.direction ∷ r.percent ∷ r.shield ∷ r.state_age ∷ r.misc_as
    ∷ r.velocities.self_x_air ∷ r.velocities.self_y ∷ r.velocities.knockback_x ∷ r.velocities.knockback_y ∷ r.velocities.self_x_ground
    ∷ r.hitlag ∷ []

abbrev pub item_floats : Item → List Float
item_floats r = r.direction ∷ r.velocity.x ∷ r.velocity.y ∷ r.position.x ∷ r.position.y ∷ r.timer ∷ []

abbrev pub fod_platform_floats : FodPlatform → List Float
fod_platform_floats r = r.height ∷ []

-- the columns of these
abbrev pub pre_columns : List ℕ
pre_columns = 2 ∷ 3 ∷ 4 ∷ 5 ∷ 6 ∷ 7 ∷ 8 ∷ 9 ∷ 12 ∷ 13 ∷ 15 ∷ []

abbrev pub post_columns : List ℕ
post_columns = 2 ∷ 3 ∷ 4 ∷ 5 ∷ 6 ∷ 11 ∷ 17 ∷ 23 ∷ 24 ∷ 25 ∷ 26 ∷ 27 ∷ 28 ∷ []

abbrev pub item_columns : List ℕ
item_columns = 2 ∷ 3 ∷ 4 ∷ 5 ∷ 6 ∷ 8 ∷ []

abbrev pub fod_platform_columns : List ℕ
fod_platform_columns = 1 ∷ []

-- a record whose k-th cell is cell k
module _ (raw : List ℕ) (cell : ℕ → ℕ) (is : (k : ℕ) → get_or raw k 0 ≡ cell k) (fits : (k : ℕ) → cell k < 0x1_0000_0000) where
  one : (k : ℕ) → nan_bits binary32 (cell k) ≡ false → to_bits binary32 (float (get_or raw k 0)) ≡ cell k
  one k e = ap (λ (n : ℕ). to_bits binary32 (float n)) (is k) ∙ bits_back (cell k) (fits k) e

  each : (ks : List ℕ) → Exact (map (λ (k : ℕ). float (get_or raw k 0)) ks) (map cell ks)
  unfolding Exact
  each [] = tt
  each (k ∷ ks) = (one k, each ks)

  module _ (v : Version) where
    pub pre_exact : (present : ℕ) → Exact (pre_floats (pre_of raw v present)) (map cell pre_columns)
    pre_exact present = each pre_columns

    pub post_exact : (present : ℕ) → Exact (post_floats (post_of raw v present)) (map cell post_columns)
    post_exact present = each post_columns

    pub item_exact : Exact (item_floats (item_of raw v)) (map cell item_columns)
    item_exact = each item_columns

    pub fod_platform_exact : Exact (fod_platform_floats (fod_platform_of raw v)) (map cell fod_platform_columns)
    fod_platform_exact = each fod_platform_columns

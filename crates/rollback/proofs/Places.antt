-- The laws of places: which ids have one, that no two ids have the same, and how many the ids need.
-- Assumes nothing.
use mathlib.Core.Path.{◌≡◌, refl, sym, ap, ◌∙◌}
use mathlib.Core.Bool.{Bool, ◌&&◌}
use mathlib.Core.List.{List, [], ◌∷◌, map}
use Prim.Native.Nat.{ℕ, zero, suc, ◌+◌, ◌-◌, ◌≤◌, ◌<◌, max}
use native.Mathlib.Omega.{arith}
use native.Mathlib.Numerals.{add-one}
use native.Mathlib.Decide.{dec_lt, ℕ_discrete}
use borrow.Author.Tests.{lt-ltb, le-ltb, le-leb, lt-leb, eq-eqb, ne_eqb}
use lib.Dec.{ltb, leb, eqb, lit<}
use lib.IntN.{ℤ, pos, negsuc}
use lib.ListN.{length, get_or, take, drop, length-take, get_or-eq_default}
use lib.Seq.{drop-cons, get_or-take, get_or-drop}
use mir.Facts.{to_z_inj}
use mir.Syntax.{w32}
use mir.Val.{Fits, to_z}
use Rattle.format.specs.FrameId.{in_range, place_of}
use Rattle.rollback.specs.Mask.{place, needed, occurs, all_in_range}

-- ---- one id

pub pos_place : (n : ℕ) → place_of (pos n) < 1048576 → place_of (pos n) ≡ n + 123
unfolding place_of
pos_place n h =
    elim (dec_lt 1048452 n) [
      | yes l ↦ absurd (omega (arith, rw (lt-ltb 1048452 n l) at h))
      | no r ↦ rw (le-ltb 1048452 n (omega arith))
    ]

pub neg_place : (n : ℕ) → place_of (negsuc n) < 1048576 → place_of (negsuc n) + suc n ≡ 123
unfolding place_of
neg_place n h =
    elim (dec_lt 122 n) [
      | yes l ↦ absurd (omega (arith, rw (lt-ltb 122 n l) at h))
      | no r ↦ rw (le-ltb 122 n (omega arith)) (omega arith)
    ]

-- two ids in range are equal where their places are
same_id : (y z : ℤ) → place_of y < 1048576 → place_of z < 1048576 → place_of y ≡ place_of z → y ≡ z
same_id (pos n) (pos m) h g e = let q : n ≡ m = omega (arith, pos_place n h, pos_place m g) in ap pos q
same_id (pos n) (negsuc m) h g e = absurd (omega (arith, pos_place n h, neg_place m g))
same_id (negsuc n) (pos m) h g e = absurd (omega (arith, neg_place n h, pos_place m g))
same_id (negsuc n) (negsuc m) h g e = let q : n ≡ m = omega (arith, neg_place n h, neg_place m g) in ap negsuc q

-- an id is in range where its place is below their number
in_place : (z : ℤ) → in_range z ≡ ltb (place_of z) 1048576
unfolding place_of
in_place (pos n) =
    elim (dec_lt 1048452 n) [
      | yes l ↦ rw (lt-leb n 1048452 l, lt-ltb 1048452 n l)
      | no r ↦ rw (le-leb n 1048452 (omega arith), le-ltb 1048452 n (omega arith)) (sym (lt-ltb (n + 123) 1048576 (omega arith)))
    ]
in_place (negsuc n) =
    elim (dec_lt 122 n) [
      | yes l ↦ rw (lt-leb n 122 l, lt-ltb 122 n l)
      | no r ↦ rw (le-leb n 122 (omega arith), le-ltb 122 n (omega arith)) (sym (lt-ltb (122 - n) 1048576 (omega arith)))
    ]

-- ---- all ids

-- each place is below what is needed
pub below_needed : (ids : List ℕ) (i : ℕ) → i < length ids → place (get_or ids i 0) < needed ids
unfolding needed
below_needed [] i h = absurd (omega arith)
below_needed (b ∷ bs) zero h = omega arith
below_needed (b ∷ bs) (suc i) h = omega (arith, below_needed bs i (omega arith))

-- one id more, from the front
pub needed_more : (ids : List ℕ) (i : ℕ) → i < length ids → needed (drop i ids) ≡ max (suc (place (get_or ids i 0))) (needed (drop (i + 1) ids))
unfolding needed
needed_more ids i h = rw (drop-cons ids i 0 h, add-one)

-- the larger of two numbers is at most n where both are
leb_max : (a b n : ℕ) → leb (max a b) n ≡ (leb a n && leb b n)
leb_max a b n =
    elim (dec_lt n a) [
      | yes l ↦ rw (lt-leb a n l, lt-leb (max a b) n (omega arith))
      | no r ↦ elim (dec_lt n b) [
        | yes l ↦ rw (le-leb a n (omega arith), lt-leb b n l, lt-leb (max a b) n (omega arith))
        | no q ↦ rw (le-leb a n (omega arith), le-leb b n (omega arith), le-leb (max a b) n (omega arith))
      ]
    ]

both : {a b c d : Bool} → a ≡ c → b ≡ d → (a && b) ≡ (c && d)
both e f = cc

-- all ids are in range where no more bytes are needed than there are ids
pub all_in_place : (ids : List ℕ) → all_in_range ids ≡ leb (needed ids) 1048576
unfolding all_in_range needed
all_in_place [] = refl
all_in_place (b ∷ bs) = both (in_place (to_z w32 b)) (all_in_place bs) ∙ sym (leb_max (suc (place b)) (needed bs) 1048576)

-- ---- cells whose ids are in range

-- each cell is a 32-bit number whose id has a place; past the end stands the id 0, which has one
abbrev pub InPlace : List ℕ → Type 0
InPlace ids = (j : ℕ) → Fits w32 (get_or ids j 0) × (place (get_or ids j 0) < 1048576)

zero_place : place 0 < 1048576
unfolding place_of
zero_place = lit< tt

pub placed : (ids : List ℕ) → ((j : ℕ) → Fits w32 (get_or ids j 0)) → needed ids ≤ 1048576 → InPlace ids
placed ids f h j = (
  f j,
  elim (dec_lt j (length ids)) [
    | yes l ↦ omega (arith, below_needed ids j l)
    | no r ↦ rw (get_or-eq_default ids 0 {n = j} (omega arith)) zero_place
  ],
)

pub placed_take : (n : ℕ) (ids : List ℕ) → InPlace ids → InPlace (take n ids)
placed_take n ids h j =
    elim (dec_lt j n) [
      | yes l ↦ rw (get_or-take n ids j 0 l) (h j)
      | no r ↦ rw (get_or-eq_default (take n ids) 0 {n = j} (omega (arith, length-take n ids))) (record { fits = lit< tt }, zero_place)
    ]

pub placed_drop : (n : ℕ) (ids : List ℕ) → InPlace ids → InPlace (drop n ids)
placed_drop n ids h j = rw (get_or-drop n ids j 0) (h (n + j))

same_place : (b c : ℕ) → Fits w32 b × (place b < 1048576) → Fits w32 c × (place c < 1048576) → eqb (place b) (place c) ≡ eqb b c
same_place b c h g =
    elim (ℕ_discrete b c) [
      | yes e ↦ eq-eqb (place b) (place c) (ap place e) ∙ sym (eq-eqb b c e)
      | no n ↦ ne_eqb (place b) (place c) (λ e. n (to_z_inj h.0 g.0 (same_id (to_z w32 b) (to_z w32 c) h.1 g.1 e))) ∙ sym (ne_eqb b c n)
    ]

-- so what occurs among the places is what occurs among the ids
pub occurs_place : (b : ℕ) (ids : List ℕ) → Fits w32 b × (place b < 1048576) → InPlace ids → occurs (place b) (map place ids) ≡ occurs b ids
unfolding occurs
occurs_place b [] h g = refl
occurs_place b (c ∷ cs) h g = rw (same_place b c h (g 0), occurs_place b cs h (λ j. g (suc j)))

-- The laws of the block's length.
-- Assumes nothing.
use mathlib.Core.Path.{◌≡◌, refl, sym}
use mathlib.Core.Bool.{Bool, true, false, cond, ◌&&◌}
use mathlib.Core.List.{List, [], ◌∷◌}
use Prim.Native.Nat.{ℕ, zero, suc, ◌+◌, ◌≤◌, ◌<◌}
use native.Mathlib.Numerals.{add-one}
use native.Mathlib.Omega.{arith}
use lib.Dec.{leb}
use lib.ListN.{length, get_or, drop, drop_of_length-le}
use lib.Seq.{drop-cons}
use borrow.Author.Tests.{leb-true}
use Rattle.format.specs.declared.version.Version.{Version}
use Rattle.start.specs.declared.gate.Gate.{Gate}
use Rattle.start.specs.Gate.{gate, gates, reaches}
use Rattle.start.specs.Length.{reached, length_of}

-- ---- a search through the gates: r is what those from index k on say
module _ (v : Version) (gs : List Gate) (k r : ℕ) where
  -- the gate at k is reached, or passed
  pub is_reached : (d : Gate) → k < length gs → reaches v (get_or gs k d) ≡ true → r ≡ reached v (drop k gs) → (get_or gs k d).bytes ≡ r
  unfolding reached
  is_reached d h on q = sym (rw (drop-cons gs k d h, on) at q)

  pub is_passed : (d : Gate) → k < length gs → reaches v (get_or gs k d) ≡ false → r ≡ reached v (drop k gs) → r ≡ reached v (drop (k + 1) gs)
  unfolding reached
  is_passed d h off q = rw add-one (rw (drop-cons gs k d h, off) at q)

  -- and there are no more
  pub all_passed : length gs ≤ k → r ≡ reached v (drop k gs) → 320 ≡ r
  unfolding reached
  all_passed h q = sym (rw (drop_of_length-le gs h) at q)

-- ---- a version that reaches a gate has a block of the gate's length at least, and every version one of 320

-- the lengths fall from n to 320
abbrev falls : ℕ → List Gate → Bool
falls n [] = leb 320 n
falls n (g ∷ gs) = leb g.bytes n && falls g.bytes gs

both : (a b : Bool) → a && b ≡ true → (a ≡ true) × (b ≡ true)
both true b e = (refl, e)
both false b e = (e, cc)

either_way : (b : Bool) (m x y : ℕ) → m ≤ x → m ≤ y → m ≤ cond b x y
either_way true m x y p q = p
either_way false m x y p q = q

abbrev nth : List Gate → ℕ → Gate
nth gs k = get_or gs k (gate 0 0 0)

module _ (v : Version) where
  floor : (n : ℕ) (gs : List Gate) → falls n gs ≡ true → 320 ≤ n
  floor n [] f = leb-true 320 n f
  floor n (g ∷ gs) f = let b = both (leb g.bytes n) _ f in omega (arith, leb-true g.bytes n b.0, floor g.bytes gs b.1)

  ceiling : (n : ℕ) (gs : List Gate) → falls n gs ≡ true → (k : ℕ) → (nth gs k).bytes ≤ n
  ceiling n [] f k = omega arith
  ceiling n (g ∷ gs) f zero = leb-true g.bytes n (both (leb g.bytes n) _ f).0
  ceiling n (g ∷ gs) f (suc k) =
      let b = both (leb g.bytes n) _ f in
      omega (arith, leb-true g.bytes n b.0, ceiling g.bytes gs b.1 k)

  from_320 : (n : ℕ) (gs : List Gate) → falls n gs ≡ true → 320 ≤ reached v gs
  unfolding reached
  from_320 n [] f = omega arith
  from_320 n (g ∷ gs) f =
      let rest = (both (leb g.bytes n) _ f).1 in
      either_way (reaches v g) _ _ _ (floor g.bytes gs rest) (from_320 g.bytes gs rest)

  from_gate : (n : ℕ) (gs : List Gate) → falls n gs ≡ true → (k : ℕ) → reaches v (nth gs k) ≡ true → (nth gs k).bytes ≤ reached v gs
  unfolding reached
  from_gate n [] f k on = omega arith
  from_gate n (g ∷ gs) f zero on = rw on (omega arith)
  from_gate n (g ∷ gs) f (suc k) on =
      let rest = (both (leb g.bytes n) _ f).1 in
      either_way (reaches v g) _ _ _ (ceiling g.bytes gs rest k) (from_gate g.bytes gs rest k on)

pub at_least : (v : Version) → 320 ≤ length_of v
unfolding length_of
at_least v = from_320 v 760 gates refl

-- the gate at k
pub long_enough : (v : Version) (k : ℕ) → reaches v (nth gates k) ≡ true → (nth gates k).bytes ≤ length_of v
unfolding length_of
long_enough v k on = from_gate v 760 gates refl k on

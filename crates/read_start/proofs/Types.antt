-- The seat types of a block.
-- Assumes nothing.
use mathlib.Core.Path.{◌≡◌, refl}
use mathlib.Core.Bool.{Bool, true, false, ◌&&◌}
use mathlib.Core.List.{List}
use mathlib.Core.Logic.{◌↔◌}
use Prim.Native.Nat.{ℕ, zero, suc, ◌+◌, ◌*◌, ◌≤◌, ◌<◌}
use native.Mathlib.Omega.{arith}
use borrow.Author.Tests.{leb-true, le-leb}
use lib.Dec.{leb}
use Rattle.format.proofs.Versions.{no_way}
use Rattle.read_start.specs.Start.{byte_at, seats_fit}

-- as the code tests them
pub types_said : (block : List ℕ) → (((leb (byte_at block 101) 3 && leb (byte_at block 137) 3) && leb (byte_at block 173) 3) && leb (byte_at block 209) 3) ≡ seats_fit block
unfolding seats_fit
types_said block = refl

both : (a b : Bool) → (a && b) ≡ true → (a ≡ true) × (b ≡ true)
both true b e = (refl, e)
both false b e = no_way e

module _ (block : List ℕ) where
  -- each of the four is at most 3
  abbrev TypesFit : Type 0
  TypesFit = (n : ℕ) → n < 4 → byte_at block (101 + 36 * n) ≤ 3

  fit_types : seats_fit block ≡ true → TypesFit
  unfolding seats_fit
  fit_types e n h =
      let c = both _ _ e in
      let b = both _ _ c.0 in
      let a = both _ _ b.0 in
      four n h (leb-true _ 3 a.0) (leb-true _ 3 a.1) (leb-true _ 3 b.1) (leb-true _ 3 c.1)
    where
      four : (n : ℕ) → n < 4 → byte_at block 101 ≤ 3 → byte_at block 137 ≤ 3 → byte_at block 173 ≤ 3 → byte_at block 209 ≤ 3 → byte_at block (101 + 36 * n) ≤ 3
      four zero h p q r s = p
      four (suc zero) h p q r s = q
      four (suc (suc zero)) h p q r s = r
      four (suc (suc (suc zero))) h p q r s = s
      four (suc (suc (suc (suc n)))) h p q r s = absurd (omega arith)

  types_all : TypesFit → seats_fit block ≡ true
  unfolding seats_fit
  types_all f = rw (le-leb _ 3 (f 0 (omega arith)), le-leb _ 3 (f 1 (omega arith)), le-leb _ 3 (f 2 (omega arith)), le-leb _ 3 (f 3 (omega arith)))

  pub types_fit : (seats_fit block ≡ true) ↔ ((n : ℕ) → n < 4 → byte_at block (101 + 36 * n) ≤ 3)
  types_fit = (fit_types, types_all)

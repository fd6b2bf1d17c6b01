-- The laws of counts and of offsets.
-- Assumes nothing.
use mathlib.Core.Path.{◌≡◌}
use Prim.Native.Nat.{ℕ, zero, suc, ◌+◌, ◌*◌, ◌≤◌, ◌<◌}
use mathlib.Core.List.{List}
use native.Mathlib.Nat.{add-zero, le_refl, mul-le-mul}
use native.Mathlib.Omega.{arith}
use lib.ListN.{get_or}
use Rattle.layout.specs.declared.columns.Family.{Family}
use Rattle.layout.proofs.Laws.{each}
use Rattle.game.specs.Frames.{rows_of}
use Rattle.game.specs.declared.frames.Frames.{Frames}
use Rattle.players.specs.Inner.{Modest}

-- no family has more rows than items may have
pub rows_most : (f : Frames) (family : Family) → Modest f → rows_of f family ≤ 4194304
rows_most f family m =
    let frames : f.counts.frames ≤ 4194304 = omega (arith, m.frames) in
    each (λ (g : Family). rows_of f g ≤ 4194304)
    (frames, frames, frames, m.items, frames, omega (arith, m.fods), omega (arith, m.whispys), omega (arith, m.stadiums))
    family

pub product_small : {a b c : ℕ} → a ≤ 8 → b ≤ 32 → c ≤ 4194304 → (b * c ≤ 134217728) × (a * (b * c) ≤ 1073741824)
product_small h k l = (mul-le-mul k l, mul-le-mul h (mul-le-mul k l))

-- what rises by steps rises
pub rises : (os : List ℕ) (n : ℕ) → ((i : ℕ) → i < n → get_or os i 0 ≤ get_or os (i + 1) 0) → (i d : ℕ) → i + d ≤ n → get_or os i 0 ≤ get_or os (i + d) 0
rises os n up i zero h = rw add-zero (le_refl (get_or os i 0))
rises os n up i (suc d) h =
    let place : i + suc d ≡ i + d + 1 = omega arith in
    rw place (omega (arith, rises os n up i d (omega arith), up (i + d) (omega arith)))

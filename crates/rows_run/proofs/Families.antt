-- Families by the number of their store: where it is none of the first seven.
-- Assumes nothing.
use mathlib.Core.Path.{◌≡◌, refl}
use Prim.Native.Nat.{ℕ, zero, suc}
use Rattle.layout.specs.declared.columns.Family.TheVariants.{StadiumTransformation}
use Rattle.rows_run.specs.Run.{family_at}

pub last_family : (n : ℕ) → (n ≡ 0 → ⊥) × (n ≡ 1 → ⊥) × (n ≡ 2 → ⊥) × (n ≡ 3 → ⊥) × (n ≡ 4 → ⊥) × (n ≡ 5 → ⊥) × (n ≡ 6 → ⊥) → StadiumTransformation ≡ family_at n
last_family zero h = absurd (h.0 refl)
last_family (suc zero) h = absurd (h.1 refl)
last_family (suc (suc zero)) h = absurd (h.2 refl)
last_family (suc (suc (suc zero))) h = absurd (h.3 refl)
last_family (suc (suc (suc (suc zero)))) h = absurd (h.4 refl)
last_family (suc (suc (suc (suc (suc zero))))) h = absurd (h.5 refl)
last_family (suc (suc (suc (suc (suc (suc zero)))))) h = absurd (h.6 refl)
last_family (suc (suc (suc (suc (suc (suc (suc zero))))))) h = refl
last_family (suc (suc (suc (suc (suc (suc (suc (suc n)))))))) h = refl

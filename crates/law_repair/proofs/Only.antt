-- No second outcome: a file has one longest beginning, and what both calls answer and leave follows from their inputs.
-- Assumes nothing.
use Prim.Native.Nat.{ℕ, ◌≤◌, ◌<◌}
use mathlib.Core.Path.{◌≡◌, refl, sym, ap, ◌∙◌}
use mathlib.Core.List.{List}
use native.Mathlib.Omega.{arith}
use lib.ListN.{length}
use Rattle.wire.specs.Wire.{splice}
use Rattle.repair_kept.specs.Kept.{Longest}
use Rattle.repair_call.specs.Outcome.{repaired_to, unrepaired, repair_of, RepairMeasured, RepairOutcome}
use Rattle.repair_call.specs.Outcome.RepairMeasured.{early as measured-early, none as measured-none, found as measured-found}
use Rattle.repair_call.specs.Outcome.RepairOutcome.{early as outcome-early, none as outcome-none, short as outcome_short, found as outcome_found}
use Rattle.repair_call.specs.declared.Repaired.{Repaired}

module _ (f : List ℕ) where
  pub one_longest : (p q : ℕ) → Longest f p → Longest f q → p ≡ q
  one_longest p q x y = omega (arith, x.most q y.begins, y.most p x.begins)

  pub only_measured : (m n : Repaired) → RepairMeasured f m → RepairMeasured f n → m ≡ n
  only_measured m n (measured-early a e) (measured-early b d) = e ∙ sym d
  only_measured m n (measured-early a e) (measured-none z k d) = absurd (a z)
  only_measured m n (measured-early a e) (measured-found z q l d) = absurd (a z)
  only_measured m n (measured-none z k e) (measured-early b d) = absurd (b z)
  only_measured m n (measured-none z k e) (measured-none y j d) = e ∙ sym d
  only_measured m n (measured-none z k e) (measured-found y q l d) = absurd (k q l.begins)
  only_measured m n (measured-found z p x e) (measured-early b d) = absurd (b z)
  only_measured m n (measured-found z p x e) (measured-none y j d) = absurd (j p x.begins)
  only_measured m n (measured-found z p x e) (measured-found y q l d) = e ∙ ap (repair_of f) (one_longest p q x l) ∙ sym d

  module _ (given : List ℕ) (r s : Repaired) (k l : List ℕ) where
    longer : (p q : ℕ) → Longest f p → Longest f q → length given < length (repaired_to f p) → length (repaired_to f q) ≤ length given → ⊥
    longer p q x y a b = omega (arith, ap (λ (n : ℕ). length (repaired_to f n)) (one_longest p q x y))

    pub only_repaired : RepairOutcome f given r k → RepairOutcome f given s l → (r ≡ s) × (k ≡ l)
    only_repaired (outcome-early a e g) (outcome-early b d h) = (e ∙ sym d, g ∙ sym h)
    only_repaired (outcome-early a e g) (outcome-none z n d h) = absurd (a z)
    only_repaired (outcome-early a e g) (outcome_short z p x w d h) = absurd (a z)
    only_repaired (outcome-early a e g) (outcome_found z p x w d h) = absurd (a z)
    only_repaired (outcome-none z n e g) (outcome-early b d h) = absurd (b z)
    only_repaired (outcome-none z n e g) (outcome-none y m d h) = (e ∙ sym d, g ∙ sym h)
    only_repaired (outcome-none z n e g) (outcome_short y p x w d h) = absurd (n p x.begins)
    only_repaired (outcome-none z n e g) (outcome_found y p x w d h) = absurd (n p x.begins)
    only_repaired (outcome_short z p x w e g) (outcome-early b d h) = absurd (b z)
    only_repaired (outcome_short z p x w e g) (outcome-none y n d h) = absurd (n p x.begins)
    only_repaired (outcome_short z p x w e g) (outcome_short y q j v d h) = (e ∙ sym d, g ∙ sym h)
    only_repaired (outcome_short z p x w e g) (outcome_found y q j v d h) = absurd (longer p q x j w v)
    only_repaired (outcome_found z p x w e g) (outcome-early b d h) = absurd (b z)
    only_repaired (outcome_found z p x w e g) (outcome-none y n d h) = absurd (n p x.begins)
    only_repaired (outcome_found z p x w e g) (outcome_short y q j v d h) = absurd (longer q p j x v w)
    only_repaired (outcome_found z p x w e g) (outcome_found y q j v d h) =
        let o = one_longest p q x j in
        (e ∙ ap (repair_of f) o ∙ sym d, g ∙ ap (λ (n : ℕ). splice given 0 (repaired_to f n)) o ∙ sym h)

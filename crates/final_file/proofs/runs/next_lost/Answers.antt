use mathlib.Core.Path.{◌≡◌, ap, ◌∙◌}
use Prim.Native.Nat.{ℕ, ◌-◌, ◌≤◌, ◌<◌}
use native.Mathlib.Omega.{arith}
use native.Mathlib.Decide.{ℕ_discrete}
use lib.ListN.{length, get_or}
use Rattle.final_file.proofs.runs.next_lost.Goals as goal

pub loop-k-init : goal.loop-k-init
loop-k-init c =
    (omega arith, omega arith, λ j a b. absurd (omega arith))

pub returns-then-mask-k-ne0 : goal.returns-then-mask-k-ne0
returns-then-mask-k-ne0 c =
    record { low = c.loop-k.invariant.0; high = c.loop-k.invariant.1; kept = c.loop-k.invariant.2; lost = λ h. c.if-mask-k-ne0.true }

pub loop-k-preserved : goal.loop-k-preserved
loop-k-preserved c = (
  omega arith,
  omega arith,
  λ j a b. elim (ℕ_discrete j c.loop-k.k) [
    | yes e ↦ ap (λ (q : ℕ). get_or c.args.mask.now q 0) e ∙ c.if-mask-k-ne0.false
    | no n ↦ c.loop-k.invariant.2 j a (omega (arith, n))
  ],
)

pub returns : goal.returns
returns c =
    let end : length c.args.mask.now ≤ c.loop-k.k = c.loop-k-test.false in
    record { low = c.requires; high = omega arith; kept = λ j a b. c.loop-k.invariant.2 j a (omega (arith, b, end)); lost = λ h. absurd (omega (arith, h)) }

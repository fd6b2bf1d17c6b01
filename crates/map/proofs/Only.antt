-- Equal numbers are equal answers, and no second outcome: what the writer answers and what it leaves in the output follow from its inputs, on a refusal too.
-- Assumes nothing.
use Prim.Native.Nat.{ℕ}
use native.Mathlib.Decide.{ℕ_discrete}
use mathlib.Core.Path.{◌≡◌, sym, ap, ◌∙◌}
use mathlib.Core.List.{List}
use Rattle.std.specs.Prelude.{Ok, Err}
use Rattle.format.specs.Refused.{Answer}
use Rattle.format.proofs.Numbers.{not_zero, same_refusal}
use Rattle.map.specs.Write.{Written, map_written, WriteMapOutcome}

pub only : {before rows texts a b : List ℕ} {count : ℕ} {q r : Written} → WriteMapOutcome before rows texts count a q → WriteMapOutcome before rows texts count b r → (q.refusal ≡ r.refusal) × (q.len ≡ r.len) × (a ≡ b)
only {q = q} {r = r} x y =
    let same = x.refusal_is ∙ sym y.refusal_is in
    elim (ℕ_discrete q.refusal 0) [
      | yes z ↦
          let (n, s) = x.accepted z in
          let (m, t) = y.accepted (sym same ∙ z) in
          (same, n ∙ sym m, s ∙ sym t)
      | no z ↦
          let (n, s) = x.untouched z in
          let (m, t) = y.untouched (λ e. z (same ∙ e)) in
          (same, n ∙ sym m, s ∙ sym t)
    ]

-- answers with the same numbers are equal
pub same_answer : (q r : Answer ℕ) → map_written q ≡ map_written r → q ≡ r
same_answer (Ok n) (Ok m) e = ap Ok (ap (λ (w : Written). w.len) e)
same_answer (Err n) (Err m) e = ap Err (same_refusal n m (ap (λ (w : Written). w.refusal) e))
same_answer (Ok n) (Err m) e = absurd (not_zero m (sym (ap (λ (w : Written). w.refusal) e)))
same_answer (Err n) (Ok m) e = absurd (not_zero n (ap (λ (w : Written). w.refusal) e))

-- so that there is one answer of the call, and one output
pub only_answer : {before rows texts a b : List ℕ} {count : ℕ} {q r : Answer ℕ} → WriteMapOutcome before rows texts count a (map_written q) → WriteMapOutcome before rows texts count b (map_written r)
    → (q ≡ r) × (a ≡ b)
only_answer {q = q} {r = r} x y =
    let (refusal, len, out) = only x y in
    (same_answer q r (λ i. record { refusal = refusal i; len = len i }), out)

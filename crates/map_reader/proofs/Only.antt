-- Equal numbers are equal answers, and no second outcome: what the reader answers and what it leaves in the store of entries follow from its inputs, on a refusal too.
-- Assumes nothing.
use Prim.Native.Nat.{ℕ}
use native.Mathlib.Decide.{ℕ_discrete}
use mathlib.Core.Path.{◌≡◌, sym, ap, ◌∙◌}
use mathlib.Core.List.{List}
use Rattle.std.specs.Prelude.{Result, Ok, Err}
use Rattle.format.proofs.Numbers.{not_zero, same_refusal}
use Rattle.map_reader.specs.Answer.{MapRead, map_read, ReadMapOutcome}
use Rattle.map_reader.specs.declared.read.Counts.{Counts}
use Rattle.map_reader.specs.declared.read.WrongAt.{WrongAt}

pub only : {body before a b : List ℕ} {q r : MapRead} → ReadMapOutcome body before a q → ReadMapOutcome body before b r
    → (q.refusal ≡ r.refusal) × (q.place ≡ r.place) × (q.count ≡ r.count) × (q.entries ≡ r.entries) × (a ≡ b)
only {q = q} {r = r} x y =
    let same = x.refusal_is ∙ sym y.refusal_is in
    let place = x.place_is ∙ sym y.place_is in
    elim (ℕ_discrete q.refusal 0) [
      | yes z ↦
          let (n, e, s) = x.accepted z in
          let (m, f, t) = y.accepted (sym same ∙ z) in
          (same, place, n ∙ sym m, e ∙ sym f, s ∙ sym t)
      | no z ↦
          let (n, e, s) = x.untouched z in
          let (m, f, t) = y.untouched (λ k. z (same ∙ k)) in
          (same, place, n ∙ sym m, e ∙ sym f, s ∙ sym t)
    ]

-- answers with the same numbers are equal
pub same_answer : (q r : Result Counts WrongAt) → map_read q ≡ map_read r → q ≡ r
same_answer (Ok c) (Ok d) e = ap Ok (λ i. record { count = (e i).count; entries = (e i).entries })
same_answer (Err v) (Err w) e = ap Err (λ i. record { refusal = same_refusal v.refusal w.refusal (ap (λ (m : MapRead). m.refusal) e) i; place = (e i).place })
same_answer (Ok c) (Err w) e = absurd (not_zero w.refusal (sym (ap (λ (m : MapRead). m.refusal) e)))
same_answer (Err v) (Ok d) e = absurd (not_zero v.refusal (ap (λ (m : MapRead). m.refusal) e))

-- so that there is one answer of the call, and one store
pub only_answer : {body before a b : List ℕ} {q r : Result Counts WrongAt} → ReadMapOutcome body before a (map_read q) → ReadMapOutcome body before b (map_read r) → (q ≡ r) × (a ≡ b)
only_answer {q = q} {r = r} x y =
    let (refusal, place, count, entries, store) = only x y in
    (same_answer q r (λ i. record { refusal = refusal i; place = place i; count = count i; entries = entries i }), store)

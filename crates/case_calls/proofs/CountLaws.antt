-- The laws of a count over the events that the reader finds.
-- Assumes nothing.
use mathlib.Core.Path.{◌≡◌, refl, sym, ap, ◌∙◌}
use mathlib.Core.Bool.{Bool, true, false, cond}
use mathlib.Core.List.{List, map}
use Prim.Native.Nat.{ℕ, zero, suc, ◌+◌, ◌≤◌}
use native.Mathlib.Nat.{add-zero, zero-add, add_assoc}
use native.Mathlib.Omega.{arith}
use lib.Dec.{eqb}
use lib.ListN.{length}
use Rattle.head.specs.Table.{table_of, first_place}
use Rattle.head.specs.Step.{step_of}
use Rattle.de.specs.Walk.{Run, turn, run}
use Rattle.de.specs.Cut.{event_at, events_read}
use Rattle.head.specs.Numbers.{step_numbers}
use Rattle.head.specs.declared.Step.{Step}
use Rattle.head.specs.declared.Step.TheVariants.{Event}
use Rattle.head.proofs.Steps.{event_ends}
use Rattle.de.proofs.Runs.{run_stop}
use Rattle.case_calls.specs.Rows.{count_code}

-- ---- the count: n so far, and those that a run from here finds

abbrev codes_from : List ℕ → ℕ → ℕ → ℕ → ℕ
codes_from f code fuel place = count_code code (map (event_at f) (run fuel f place).seen)

pub record Counting (f : List ℕ) (code place n : ℕ) : Type 0 where
  pub fuel : ℕ
  pub enough : length f ≤ fuel + place
  pub few : n ≤ place
  pub sum : count_code code (events_read f) ≡ n + codes_from f code fuel place

pub starts : (f : List ℕ) (code place : ℕ) → place ≡ first_place (table_of f) → Counting f code place 0
unfolding events_read
starts f code place e = record {
  fuel = length f;
  enough = omega arith;
  few = omega arith;
  sum = ap (λ (p : ℕ). codes_from f code (length f) p) (sym e) ∙ sym (zero-add _);
}

at_most_one : (b : Bool) → cond b 1 0 ≤ 1
at_most_one true = omega arith
at_most_one false = omega arith

one_event_lem : (f : List ℕ) (code k place found at payload len next : ℕ) → step_of f place ≡ Event found at payload len next
    → codes_from f code (suc k) place ≡ cond (eqb found code) 1 0 + codes_from f code k next
unfolding run count_code
one_event_lem f code k place found at payload len next e = ap (λ (s : Step). count_code code (map (event_at f) (turn s (run k f) place).seen)) e

pub goes_on : (f : List ℕ) (code place n found at payload len next m : ℕ) → Counting f code place n → step_of f place ≡ Event found at payload len next
    → m ≡ n + cond (eqb found code) 1 0 → Counting f code next m
goes_on f code place n found at payload len next m c e q = go c.fuel refl
  where
    go : (k : ℕ) → c.fuel ≡ k → Counting f code next m
    go zero z = let (a, b) = event_ends f place found at payload len next e in absurd (omega (arith, c.enough, z))
    go (suc k) z =
        let (a, b) = event_ends f place found at payload len next e in
        let one = at_most_one (eqb found code) in
        record {
          fuel = k;
          enough = omega (arith, c.enough, z);
          few = omega (arith, c.few, q, one);
          sum =
              c.sum
              ∙ ap (λ (x : ℕ). n + codes_from f code x place) z
              ∙ ap (λ (x : ℕ). n + x) (one_event_lem f code k place found at payload len next e)
              ∙ sym (add_assoc n (cond (eqb found code) 1 0) (codes_from f code k next))
              ∙ ap (λ (x : ℕ). x + codes_from f code k next) (sym q);
        }

pub ends_here : (f : List ℕ) (code place n : ℕ) (s : Step) → Counting f code place n → ((step_numbers s).kind ≡ 0 → ⊥) → step_of f place ≡ s → n ≡ count_code code (events_read f)
unfolding count_code
ends_here f code place n s c h e =
    sym (c.sum ∙ ap (λ (r : Run). n + count_code code (map (event_at f) r.seen)) (run_stop c.fuel f place s h e) ∙ add-zero n)

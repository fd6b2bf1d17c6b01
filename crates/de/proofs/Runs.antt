-- The laws of a walk: one event more, and where it stops.
-- Assumes nothing.
use mathlib.Core.Path.{◌≡◌, refl, sym, ap}
use mathlib.Core.List.{List, [], ◌∷◌}
use mathlib.Core.Bool.{false}
use mathlib.Core.Logic.{⊎_elim}
use Prim.Native.Nat.{ℕ, zero, suc, ◌+◌, ◌-◌}
use native.Mathlib.Omega.{arith}
use lib.ListN.{length}
use Rattle.head.specs.Table.{stop_of, table_of, first_place, head_refusal, head_offset}
use Rattle.head.specs.Step.{step_of}
use Rattle.head.specs.Numbers.{step_numbers}
use Rattle.de.specs.Walk.{Run, run, run_of, answer_at, walk_of}
use Rattle.de.specs.Inner.{stopped}
use types.Run.{OneOf}
use denote.Enum.Declared.{tag_of}
use Rattle.head.specs.declared.Step.{Step}
use Rattle.head.specs.contracts.Step.{the_type}
use Rattle.head.specs.declared.Step.TheVariants.{Event, Ends, Cut, Refused}
use Rattle.de.specs.declared.Stop.{Stop}
use Rattle.de.specs.declared.Walked.TheVariants as walked
use Rattle.head.proofs.Steps.{refused_step}

-- where a run stops that has n events before it
abbrev pub counted : ℕ → Run → Stop
counted n r = record { place = r.place; events = n + length r.seen; last = r.last }

-- an event is counted before the run after it
pub run_event : (n k : ℕ) (f : List ℕ) (place code at payload len next : ℕ) → step_of f place ≡ Event code at payload len next
    → counted n (run (suc k) f place) ≡ counted (n + 1) (run k f next)
unfolding run
run_event n k f place code at payload len next e =
    let z : n + suc (length (run k f next).seen) ≡ n + 1 + length (run k f next).seen = omega arith in
    rw (e, z)

-- a run stops at what is no event
pub run_stop : (k : ℕ) (f : List ℕ) (place : ℕ) (s : Step) → ((step_numbers s).kind ≡ 0 → ⊥) → step_of f place ≡ s → run k f place ≡ record { seen = []; place = place; last = s }
unfolding run
run_stop zero f place s h e = rw e
run_stop (suc k) f place (Event code at payload len next) h e = absurd (h refl)
run_stop (suc k) f place Ends h e = rw e
run_stop (suc k) f place Cut h e = rw e
run_stop (suc k) f place (Refused number offset) h e = rw e

-- by the tags of the variants
pub kept : (s : Step) → OneOf (1 ∷ 2 ∷ 3 ∷ []) (tag_of the_type s) → (step_numbers s).kind ≡ 0 → ⊥
kept (Event code at payload len next) h e = ⊎_elim (λ x. omega arith) (⊎_elim (λ x. omega arith) (λ x. omega arith)) h
kept Ends h e = omega arith
kept Cut h e = omega arith
kept (Refused number offset) h e = omega arith

-- by what an arm after the one for an event says
pub no_event : (s : Step) → ((code at payload len next : ℕ) → s ≡ Event code at payload len next → ⊥) → (step_numbers s).kind ≡ 0 → ⊥
no_event (Event code at payload len next) h e = h code at payload len next refl
no_event Ends h e = omega arith
no_event Cut h e = omega arith
no_event (Refused number offset) h e = omega arith

-- a refused head is the answer of the whole walk
pub refused_walk : (f : List ℕ) (number offset : ℕ) → number ≡ head_refusal f → offset ≡ head_offset (head_refusal f) → (number ≡ 0 → ⊥) → walked.Refused number offset ≡ walk_of f
unfolding walk_of
refused_walk f number offset e o h =
    rw (run_stop (length f) f (first_place (table_of f)) (Refused number offset) (λ z. omega arith) (sym (refused_step f (first_place (table_of f)) number offset e o h)))

-- both ways: the walk, and a step at any place
pub refused : (f : List ℕ) (n : ℕ) → head_refusal f ≡ suc n
    → (walk_of f ≡ walked.Refused (suc n) (head_offset (suc n))) × ((place : ℕ) → step_of f place ≡ Refused (suc n) (head_offset (suc n)))
refused f n e =
    let o : head_offset (suc n) ≡ head_offset (head_refusal f) = ap head_offset (sym e) in
    (sym (refused_walk f (suc n) (head_offset (suc n)) (sym e) o (λ z. omega arith)), λ place. sym (refused_step f place (suc n) (head_offset (suc n)) (sym e) o (λ z. omega arith)))

-- the walk answers of the place where its run stops
pub walk_is : (f : List ℕ) (stop : ℕ) (done : Stop) → done ≡ stopped (run_of f) → stop ≡ stop_of f → answer_at stop done.events done.place done.last ≡ walk_of f
unfolding walk_of
walk_is f stop done e h = rw (e, h)

-- where the data is cut, and where a walk would stop at an event
pub cut_answer : (stop events place : ℕ) (s : Step) → OneOf (2 ∷ 0 ∷ []) (tag_of the_type s) → walked.Done events (stop - place) false place ≡ answer_at stop events place s
cut_answer stop events place (Event code at payload len next) h = refl
cut_answer stop events place Cut h = refl
cut_answer stop events place Ends h = absurd (⊎_elim (λ x. omega arith) (λ x. omega arith) h)
cut_answer stop events place (Refused number offset) h = absurd (⊎_elim (λ x. omega arith) (λ x. omega arith) h)

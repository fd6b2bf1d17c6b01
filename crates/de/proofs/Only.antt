-- No second outcome fits: the numbers of an answer tell it, and what `step_at` and `walk` promise of them leaves one.
-- Assumes nothing.
use Prim.Native.Nat.{ℕ, zero, suc, ◌<◌}
use native.Mathlib.Omega.{arith}
use mathlib.Core.Path.{◌≡◌, refl, sym, ap, ◌∙◌}
use mathlib.Core.Bool.{true, false, cond}
use mathlib.Core.List.{List}
use lib.Dec.{eqb}
use lib.ListN.{length}
use Rattle.head.specs.Table.{stop_of, table_of, first_place}
use Rattle.head.specs.Step.{step_of}
use Rattle.head.specs.Numbers.{step_numbers}
use Rattle.head.specs.declared.Step.{Step}
use Rattle.head.specs.declared.Step.TheVariants as step
use Rattle.head.proofs.Only.{step_told, Named, step_named}
use Rattle.de.specs.Walk.{Run, turn, run, run_of, answer_at, walk_of}
use Rattle.de.specs.Numbers.{WalkNumbers, walk_numbers}
use Rattle.de.specs.declared.Walked.{Walked}
use Rattle.de.specs.declared.Walked.TheVariants.{Done, Refused}

-- a walk back from its numbers
to_walked : WalkNumbers → Walked
to_walked n = cond (eqb n.kind 0) (Done n.events n.stray (eqb n.whole 1) n.place) (Refused n.number n.offset)

back : (r : Walked) → to_walked (walk_numbers r) ≡ r
unfolding to_walked
back (Done events stray true place) = refl
back (Done events stray false place) = refl
back (Refused number offset) = refl

pub walk_told : (r s : Walked) → walk_numbers r ≡ walk_numbers s → r ≡ s
walk_told r s e = sym (back r) ∙ ap to_walked e ∙ back s

pub one_step : (f : List ℕ) (place : ℕ) (r s : Step) → step_numbers r ≡ step_numbers (step_of f place) → step_numbers s ≡ step_numbers (step_of f place) → r ≡ s
one_step f place r s p q = step_told r s (p ∙ sym q)

pub one_walk : (f : List ℕ) (r s : Walked) → walk_numbers r ≡ walk_numbers (walk_of f) → walk_numbers s ≡ walk_numbers (walk_of f) → r ≡ s
one_walk f r s p q = walk_told r s (p ∙ sym q)

-- ---- no walk is refused with 0, so that a number of 0 says that nothing is refused

turn_named : (s : Step) (go : ℕ → Run) (place : ℕ) → Named s → ((next : ℕ) → Named (go next).last) → Named (turn s go place).last
turn_named (step.Event code at payload len next) go place h rest = rest next
turn_named step.Ends go place h rest = tt
turn_named step.Cut go place h rest = tt
turn_named (step.Refused number offset) go place h rest = h

last_named : (n : ℕ) (f : List ℕ) (place : ℕ) → Named (run n f place).last
unfolding run
last_named zero f place = step_named f place
last_named (suc n) f place = turn_named (step_of f place) (run n f) place (step_named f place) (λ next. last_named n f next)

answer_named : (stop events place : ℕ) (s : Step) → Named s
    → (walk_numbers (answer_at stop events place s)).kind ≡ 1 → 0 < (walk_numbers (answer_at stop events place s)).number
answer_named stop events place (step.Event code at payload len next) h e = absurd (omega arith)
answer_named stop events place step.Ends h e = absurd (omega arith)
answer_named stop events place step.Cut h e = absurd (omega arith)
answer_named stop events place (step.Refused number offset) h e = h

pub refused_by_number : (f : List ℕ) → (walk_numbers (walk_of f)).kind ≡ 1 → 0 < (walk_numbers (walk_of f)).number
unfolding walk_of
refused_by_number f = answer_named (stop_of f) (length (run_of f).seen) (run_of f).place (run_of f).last (last_named (length f) f (first_place (table_of f)))

-- The numbers of a step tell it: equal numbers are equal answers, and only a refusal has a number.
-- Assumes nothing.
use mathlib.Core.Path.{◌≡◌, refl, sym, ap, ◌∙◌}
use mathlib.Core.Bool.{Bool, true, false, cond, ◌||◌}
use mathlib.Core.List.{List}
use Prim.Native.Nat.{ℕ, ◌+◌, ◌-◌, ◌<◌}
use native.Mathlib.Omega.{arith}
use borrow.Author.Tests.{eqb-false}
use lib.Dec.{eqb, leb, ltb, lit<}
use lib.ListN.{get_or}
use Rattle.head.specs.Table.{stop_of, all_present, table_of, first_place, span_of, head_refusal, head_offset}
use Rattle.head.specs.Step.{event_in, step_in, step_of}
use Rattle.head.specs.Numbers.{StepNumbers, step_numbers}
use Rattle.head.specs.declared.Step.{Step}
use Rattle.head.specs.declared.Step.TheVariants.{Event, Ends, Cut, Refused}

-- a step back from its numbers
to_step : StepNumbers → Step
to_step n =
    cond (eqb n.kind 0) (Event n.code n.at n.payload n.len n.next)
    (cond (eqb n.kind 1) Ends (cond (eqb n.kind 2) Cut (Refused n.number n.offset)))

back : (r : Step) → to_step (step_numbers r) ≡ r
unfolding to_step
back (Event code at payload len next) = refl
back Ends = refl
back Cut = refl
back (Refused number offset) = refl

pub step_told : (r s : Step) → step_numbers r ≡ step_numbers s → r ≡ s
step_told r s e = sym (back r) ∙ ap to_step e ∙ back s

-- ---- no step is refused with 0, so that a number of 0 says that nothing is refused

abbrev pub Named : Step → Type 0
Named (Event code at payload len next) = Unit {0}
Named Ends = Unit {0}
Named Cut = Unit {0}
Named (Refused number offset) = 0 < number

either : (b : Bool) (s t : Step) → Named s → Named t → Named (cond b s t)
either true s t x y = x
either false s t x y = y

event_named : (stop : ℕ) (whole : Bool) (place code span : ℕ) → Named (event_in stop whole place code span)
unfolding event_in
event_named stop whole place code span =
    let found = Event code place (place + 1) (span - 1) (place + span) in
    let over = cond whole (Refused 17 place) Cut in
    either (eqb span 0) (Refused 16 place) (cond (leb (place + span) stop) found over) (lit< tt)
    (either (leb (place + span) stop) found over tt (either whole (Refused 17 place) Cut (lit< tt) tt))

place_named : (first stop : ℕ) (whole : Bool) (place code span : ℕ) → Named (step_in first stop whole place code span)
unfolding step_in
place_named first stop whole place code span =
    let inner = event_in stop whole place code span in
    let end = cond whole Ends Cut in
    either (ltb place first || ltb stop place) (Refused 17 place) (cond (eqb place stop) end inner) (lit< tt)
    (either (eqb place stop) end inner (either whole Ends Cut tt tt) (event_named stop whole place code span))

pub step_named : (f : List ℕ) (place : ℕ) → Named (step_of f place)
unfolding step_of
step_named f place = go (eqb (head_refusal f) 0) refl
  where
    inner : Step
    inner = step_in (first_place (table_of f)) (stop_of f) (all_present f) place (get_or f place 0) (span_of (get_or f place 0) (table_of f))

    go : (b : Bool) → eqb (head_refusal f) 0 ≡ b → Named (cond b inner (Refused (head_refusal f) (head_offset (head_refusal f))))
    go true e = place_named (first_place (table_of f)) (stop_of f) (all_present f) place (get_or f place 0) (span_of (get_or f place 0) (table_of f))
    go false e = let some = eqb-false (head_refusal f) 0 e in omega arith

-- A walk is refused with 14 to 17, so that a file which is refused with 1 has been walked without refusal.
-- Assumes nothing.
use Prim.Native.Nat.{ℕ, zero, suc, ◌-◌, ◌+◌, ◌<◌}
use native.Mathlib.Omega.{arith}
use mathlib.Core.Path.{◌≡◌, refl}
use mathlib.Core.Bool.{Bool, true, false, cond, ◌||◌}
use mathlib.Core.List.{List}
use borrow.Author.Tests.{eqb-false}
use lib.Dec.{eqb, leb, ltb, lit<}
use lib.ListN.{length, get_or}
use Rattle.format.specs.Refusal.{lowest}
use Rattle.head.specs.Table.{stop_of, table_of, first_place, all_present, span_of, head_refusal, head_offset, unsigned, untabled}
use Rattle.head.specs.Step.{event_in, step_in, step_of}
use Rattle.head.specs.declared.Step.{Step}
use Rattle.head.specs.declared.Step.TheVariants.{Event, Ends, Cut, Refused}
use Rattle.de.specs.Walk.{Run, turn, run, run_of, answer_at, walk_of}
use Rattle.de.specs.Numbers.{walk_numbers}

abbrev Late : Step → Type 0
Late (Event code at payload len next) = Unit {0}
Late Ends = Unit {0}
Late Cut = Unit {0}
Late (Refused number offset) = 1 < number

either : (b : Bool) (s t : Step) → Late s → Late t → Late (cond b s t)
either true s t x y = x
either false s t x y = y

event_late : (stop : ℕ) (whole : Bool) (place code span : ℕ) → Late (event_in stop whole place code span)
unfolding event_in
event_late stop whole place code span =
    let found = Event code place (place + 1) (span - 1) (place + span) in
    let over = cond whole (Refused 17 place) Cut in
    either (eqb span 0) (Refused 16 place) (cond (leb (place + span) stop) found over) (lit< tt)
    (either (leb (place + span) stop) found over tt (either whole (Refused 17 place) Cut (lit< tt) tt))

place_late : (first stop : ℕ) (whole : Bool) (place code span : ℕ) → Late (step_in first stop whole place code span)
unfolding step_in
place_late first stop whole place code span =
    let inner = event_in stop whole place code span in
    let end = cond whole Ends Cut in
    either (ltb place first || ltb stop place) (Refused 17 place) (cond (eqb place stop) end inner) (lit< tt)
    (either (eqb place stop) end inner (either whole Ends Cut tt tt) (event_late stop whole place code span))

pub head_late : (f : List ℕ) → (head_refusal f ≡ 0 → ⊥) → 1 < head_refusal f
unfolding head_refusal lowest
head_late f = go (unsigned f) (untabled f)
  where
    go : (a b : Bool) → (◌≡◌ {A = ℕ} (cond a 14 (cond b 15 0)) 0 → ⊥) → 1 < cond a 14 (cond b 15 0)
    go true b n = lit< tt
    go false true n = lit< tt
    go false false n = absurd (n refl)

step_late : (f : List ℕ) (place : ℕ) → Late (step_of f place)
unfolding step_of
step_late f place = go (eqb (head_refusal f) 0) refl
  where
    inner : Step
    inner = step_in (first_place (table_of f)) (stop_of f) (all_present f) place (get_or f place 0) (span_of (get_or f place 0) (table_of f))

    go : (b : Bool) → eqb (head_refusal f) 0 ≡ b → Late (cond b inner (Refused (head_refusal f) (head_offset (head_refusal f))))
    go true e = place_late (first_place (table_of f)) (stop_of f) (all_present f) place (get_or f place 0) (span_of (get_or f place 0) (table_of f))
    go false e = head_late f (eqb-false (head_refusal f) 0 e)

turn_late : (s : Step) (go : ℕ → Run) (place : ℕ) → Late s → ((next : ℕ) → Late (go next).last) → Late (turn s go place).last
turn_late (Event code at payload len next) go place h rest = rest next
turn_late Ends go place h rest = tt
turn_late Cut go place h rest = tt
turn_late (Refused number offset) go place h rest = h

last_late : (n : ℕ) (f : List ℕ) (place : ℕ) → Late (run n f place).last
unfolding run
last_late zero f place = step_late f place
last_late (suc n) f place = turn_late (step_of f place) (run n f) place (step_late f place) (λ next. last_late n f next)

answer_late : (stop events place : ℕ) (s : Step) → Late s → (walk_numbers (answer_at stop events place s)).kind ≡ 1 → 1 < (walk_numbers (answer_at stop events place s)).number
answer_late stop events place (Event code at payload len next) h e = absurd (omega arith)
answer_late stop events place Ends h e = absurd (omega arith)
answer_late stop events place Cut h e = absurd (omega arith)
answer_late stop events place (Refused number offset) h e = h

pub refused_late : (f : List ℕ) → (walk_numbers (walk_of f)).kind ≡ 1 → 1 < (walk_numbers (walk_of f)).number
unfolding walk_of
refused_late f = answer_late (stop_of f) (length (run_of f).seen) (run_of f).place (run_of f).last (last_late (length f) f (first_place (table_of f)))

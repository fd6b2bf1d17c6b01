-- A file whose length was never filled in, of any table and any events that it lists:
--
--   With length zero the event data runs to the end of the input and its state is always cut. Take any accepted file, set its length field to zero, cut it
--   anywhere from the table's end to the end of its event data: the events and stray bytes are those of the same cut with the true length. Bytes of a tail,
--   if present, are judged as events. Other lengths too small, and malformed tables, stay 15.
--
-- `zeroed f` is f with four zero bytes at 11; `called_cut` leaves an answer as it is but for its state, which is cut. The cut with the true length is `cut` of
-- EveryCut.antt, which also says what is found there. For every file whose length is not zero the walk is the one that stood before (`walk_filled`).
-- Assumes nothing.
use Prim.Native.Nat.{ℕ, zero, suc, ◌+◌, ◌^◌, ◌≤◌, ◌<◌}
use mathlib.Core.Path.{◌≡◌, refl, sym, ap, ◌∙◌}
use mathlib.Core.List.{List, [], ◌∷◌, ◌++◌}
use native.Mathlib.Omega.{arith}
use lib.ListN.{length, take, length-append}
use Rattle.wire.specs.Wire.{be, splice}
use Rattle.format.specs.File.{Entry, Ev, table_bytes, events_bytes, file_of, Fresh, Listed}
use Rattle.format.proofs.Files.{length_table}
use Rattle.head.specs.Table.{declared, stop_of, table_of, first_place, span_of}
use Rattle.head.specs.Step.{step_of}
use Rattle.head.specs.declared.Step.{Step}
use Rattle.head.specs.declared.Step.TheVariants as step
use Rattle.head.proofs.Filled.{declared_stop, declared_present, step_by, stop_filled, step_filled, Goes, never_ends}
use Rattle.head.proofs.Written.{cut_14, cut_15}
use Rattle.de.specs.Walk.{Run, turn, run, run_of, answer_at, walk_of}
use Rattle.de.specs.Numbers.{walk_numbers}
use Rattle.de.specs.Cut.{events_read, zeroed, called_cut}
use Rattle.de.specs.declared.Walked.{Walked}
use Rattle.de.specs.declared.Walked.TheVariants as walked
use Rattle.de.proofs.Runs.{refused}
use Rattle.de.proofs.Cuts.{zero_events, zero_walk, zero_tail}
use Rattle.de.proofs.EveryCut as every

-- ---- any file with a length of zero is cut: no step of it ends, and no walk of it is whole

turn_goes : (s : Step) (go : ℕ → Run) (place : ℕ) → Goes s → ((next : ℕ) → Goes (go next).last) → Goes (turn s go place).last
turn_goes (step.Event code at payload len next) go place h rest = rest next
turn_goes step.Ends go place h rest = h
turn_goes step.Cut go place h rest = tt
turn_goes (step.Refused number offset) go place h rest = tt

last_goes : (n : ℕ) (f : List ℕ) (place : ℕ) → declared f ≡ 0 → Goes (run n f place).last
unfolding run
last_goes zero f place e = never_ends f e place
last_goes (suc n) f place e = turn_goes (step_of f place) (run n f) place (never_ends f e place) (λ next. last_goes n f next e)

answer_cut : (stop events place : ℕ) (s : Step) → Goes s → (walk_numbers (answer_at stop events place s)).whole ≡ 0
answer_cut stop events place (step.Event code at payload len next) h = refl
answer_cut stop events place step.Ends h = absurd h
answer_cut stop events place step.Cut h = refl
answer_cut stop events place (step.Refused number offset) h = refl

pub always_cut : (f : List ℕ) → declared f ≡ 0 → (walk_numbers (walk_of f)).whole ≡ 0
unfolding walk_of
always_cut f e = answer_cut (stop_of f) (length (run_of f).seen) (run_of f).place (run_of f).last (last_goes (length f) f (first_place (table_of f)) e)

-- ---- any file with another length is walked as before

-- the text of `run` and `walk_of`, by any steps and any end of the event data
pub run_by : ℕ → (ℕ → Step) → ℕ → Run
run_by zero steps place = record { seen = []; place = place; last = steps place }
run_by (suc n) steps place = turn (steps place) (run_by n steps) place

abbrev pub walk_by : List ℕ → ℕ → (ℕ → Step) → Walked
walk_by f stop steps =
    let r = run_by (length f) steps (first_place (table_of f)) in
    answer_at stop (length r.seen) r.place r.last

run_same : (n : ℕ) (f : List ℕ) (steps : ℕ → Step) → ((place : ℕ) → step_of f place ≡ steps place) → (place : ℕ) → run n f place ≡ run_by n steps place
unfolding run run_by
run_same zero f steps same place = rw (same place)
run_same (suc n) f steps same place = λ i. turn (same place i) (λ (next : ℕ). run_same n f steps same next i) place

pub walk_filled : (f : List ℕ) → (declared f ≡ 0 → ⊥) → walk_of f ≡ walk_by f (declared_stop f) (step_by f (declared_stop f) (declared_present f))
unfolding walk_of
walk_filled f some = rw (run_same (length f) f _ (step_filled f some) (first_place (table_of f)), stop_filled f some)

-- ---- a written file, its length zeroed, cut after any byte

module _ (t : List Entry) (es : List Ev) (tail : List ℕ) (fresh : Fresh [] t) (listed : Listed t es)
    (fits : length (table_bytes t ++ events_bytes es) < 2 ^ 32) where
  abbrev pub cut : ℕ → List ℕ
  cut k = take k (zeroed (file_of t es tail))

  abbrev true_cut : ℕ → List ℕ
  true_cut k = every.cut t es tail fresh listed fits k

  abbrev end : ℕ
  end = every.end t es tail fresh listed fits

  end_is : end ≡ first_place t + length (events_bytes es)
  end_is = omega (arith, length-append (table_bytes t) (events_bytes es), length_table t)

  -- before the table is whole: refused as with the true length
  pub under_15 : (k : ℕ) → k < 15 → (walk_of (cut k) ≡ walked.Refused 14 0) × ((place : ℕ) → step_of (cut k) place ≡ step.Refused 14 0)
  under_15 k h = refused (cut k) 13 (cut_14 (zeroed (file_of t es tail)) k h)

  pub in_table : (k : ℕ) → 15 ≤ k → k < first_place t → (walk_of (cut k) ≡ walked.Refused 15 15) × ((place : ℕ) → step_of (cut k) place ≡ step.Refused 15 15)
  unfolding zeroed file_of splice be
  in_table k h l = refused (cut k) 14 (cut_15 t 0 (events_bytes es ++ tail) k h l)

  -- from the table's end to the end of the event data: the events of the same cut with the true length, and its answer, cut
  pub events : (k : ℕ) → first_place t ≤ k → k ≤ end → events_read (cut k) ≡ events_read (true_cut k)
  events k h l = zero_events t es tail k fresh listed h (omega (arith, end_is)) ∙ sym (every.events t es tail fresh listed fits k h)

  pub walk : (k : ℕ) → first_place t ≤ k → k ≤ end → walk_of (cut k) ≡ called_cut (walk_of (true_cut k))
  walk k h l = zero_walk t es tail k fresh listed h (omega (arith, end_is)) ∙ sym (ap called_cut (every.walk t es tail fresh listed fits k h))

  -- past it: the tail's first byte is judged as an event, and refused if the table lacks it
  pub tail_refused : (c : ℕ) (rest : List ℕ) → tail ≡ c ∷ rest → span_of c t ≡ 0 → (k : ℕ) → end < k → walk_of (cut k) ≡ walked.Refused 16 end
  tail_refused c rest first lacks k l =
      zero_tail t es tail k fresh listed (omega (arith, end_is)) c rest first lacks (omega (arith, end_is)) ∙ ap (walked.Refused 16) (sym end_is)

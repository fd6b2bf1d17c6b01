-- Where event data ends, by its length field: filled in, or zero, which says that it never was.
--
--   With length zero the event data runs to the end of the input and its state is always cut. Other lengths too small, and malformed tables, stay 15.
--
-- For every file whose length is not zero the answers are those that stood before zero had a meaning: `stop_filled`, `present_filled`, `step_filled`.
-- Assumes nothing.
use Prim.Native.Nat.{ℕ, ◌+◌, ◌-◌, ◌%◌, ◌≤◌, ◌<◌, min}
use mathlib.Core.Path.{◌≡◌, refl, ◌∙◌}
use mathlib.Core.Bool.{Bool, true, false, cond, not, ◌||◌}
use mathlib.Core.List.{List, [], ◌∷◌}
use native.Mathlib.Decide.{ℕ_discrete}
use native.Mathlib.Omega.{arith}
use borrow.Author.Tests.{le-leb, lt-leb, eq-eqb, ne_eqb}
use lib.Dec.{eqb, leb, ltb}
use lib.ListN.{length, get_or}
use Rattle.format.specs.Event.{code_of}
use Rattle.format.specs.Refusal.{refuse, lowest}
use Rattle.format.specs.declared.event.Event.TheVariants.{Payloads}
use Rattle.head.specs.Table.{declared, stop_of, all_present, table_of, first_place, span_of, code_twice, table_missing, unsigned, untabled, head_refusal, head_offset}
use Rattle.head.specs.Step.{event_in, step_in, step_of}
use Rattle.head.specs.declared.Step.{Step}
use Rattle.head.specs.declared.Step.TheVariants.{Event, Ends, Cut, Refused}

-- by the declared length alone, whatever it is: the definitions before zero had a meaning
abbrev pub declared_stop : List ℕ → ℕ
declared_stop f = min (15 + declared f) (length f)

abbrev pub declared_present : List ℕ → Bool
declared_present f = leb (15 + declared f) (length f)

module _ (f : List ℕ) where
  -- never filled in: to the file's end, and never whole
  module _ (none : declared f ≡ 0) where
    pub stop_unfilled : stop_of f ≡ length f
    unfolding stop_of
    stop_unfilled = rw (eq-eqb (declared f) 0 none)

    pub present_unfilled : all_present f ≡ false
    unfolding all_present
    present_unfilled = rw (eq-eqb (declared f) 0 none)

  -- filled in: by the declared length alone
  module _ (some : declared f ≡ 0 → ⊥) where
    pub stop_filled : stop_of f ≡ declared_stop f
    unfolding stop_of
    stop_filled = rw (ne_eqb (declared f) 0 some)

    pub present_filled : all_present f ≡ declared_present f
    unfolding all_present
    present_filled = rw (ne_eqb (declared f) 0 some)

  pub stop_within : stop_of f ≤ length f
  stop_within =
      elim (ℕ_discrete (declared f) 0) [
        | yes e ↦ omega (arith, stop_unfilled e)
        | no n ↦ omega (arith, stop_filled n)
      ]

  -- both at once: never filled in, cut before the declared end, and whole
  pub zero_data : declared f ≡ 0 → (stop_of f ≡ length f) × (all_present f ≡ false)
  zero_data none = (stop_unfilled none, present_unfilled none)

  pub cut_data : (declared f ≡ 0 → ⊥) → length f < 15 + declared f → (stop_of f ≡ length f) × (all_present f ≡ false)
  cut_data some h = (stop_filled some ∙ omega arith, present_filled some ∙ lt-leb (15 + declared f) (length f) h)

  pub whole_data : (declared f ≡ 0 → ⊥) → 15 + declared f ≤ length f → (stop_of f ≡ 15 + declared f) × (all_present f ≡ true)
  whole_data some h = (stop_filled some ∙ omega arith, present_filled some ∙ le-leb (15 + declared f) (length f) h)

  -- ---- a step, of event data that is said to end at stop, whole or not: the text of `table_missing`, `head_refusal` and `step_of`

  module _ (stop : ℕ) (whole : Bool) where
    abbrev missing_by : Bool
    missing_by = ltb stop 17 || not (eqb (get_or f 15 0) (code_of Payloads)) || not (eqb (get_or f 16 0 % 3) 1) || ltb stop (16 + get_or f 16 0)

    abbrev pub refusal_by : ℕ
    refusal_by = lowest (refuse 14 (unsigned f) ∷ refuse 15 (missing_by || code_twice (table_of f)) ∷ [])

    abbrev pub step_by : ℕ → Step
    step_by place =
        cond (eqb refusal_by 0)
        (step_in (first_place (table_of f)) stop whole place (get_or f place 0) (span_of (get_or f place 0) (table_of f)))
        (Refused refusal_by (head_offset refusal_by))

  by_text : (place : ℕ) → step_of f place ≡ step_by (stop_of f) (all_present f) place
  unfolding step_of head_refusal untabled table_missing
  by_text place = refl

  -- what stands at any place is what stood there before
  pub step_filled : (declared f ≡ 0 → ⊥) → (place : ℕ) → step_of f place ≡ step_by (declared_stop f) (declared_present f) place
  step_filled some place = by_text place ∙ rw (stop_filled some, present_filled some)

-- ---- where the length was never filled in, no data ends

-- anything but the data's end
abbrev pub Goes : Step → Type 0
Goes (Event code at payload len next) = Unit {0}
Goes Ends = ⊥
Goes Cut = Unit {0}
Goes (Refused number offset) = Unit {0}

either : (b : Bool) (s t : Step) → Goes s → Goes t → Goes (cond b s t)
either true s t x y = x
either false s t x y = y

cut_goes : (first stop place code span : ℕ) → Goes (step_in first stop false place code span)
unfolding step_in event_in
cut_goes first stop place code span =
    let found = Event code place (place + 1) (span - 1) (place + span) in
    let over = cond (leb (place + span) stop) found Cut in
    let inner = cond (eqb span 0) (Refused 16 place) over in
    either (ltb place first || ltb stop place) (Refused 17 place) (cond (eqb place stop) Cut inner) tt
    (either (eqb place stop) Cut inner tt (either (eqb span 0) (Refused 16 place) over tt (either (leb (place + span) stop) found Cut tt tt)))

pub never_ends : (f : List ℕ) → declared f ≡ 0 → (place : ℕ) → Goes (step_of f place)
unfolding step_of
never_ends f none place =
    let first = first_place (table_of f) in
    let code = get_or f place 0 in
    let span = span_of code (table_of f) in
    rw (present_unfilled f none)
    (either (eqb (head_refusal f) 0) (step_in first (stop_of f) false place code span) (Refused (head_refusal f) (head_offset (head_refusal f)))
    (cut_goes first (stop_of f) place code span) tt)

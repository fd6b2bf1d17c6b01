-- The laws of one step: what stands at a place, by where the place is.
-- Assumes nothing.
use mathlib.Core.Path.{◌≡◌, refl, subst}
use mathlib.Core.Bool.{Bool, true, false, cond, ◌||◌}
use mathlib.Core.List.{List}
use Prim.Native.Nat.{ℕ, ◌+◌, ◌-◌, ◌≤◌, ◌<◌}
use native.Mathlib.Omega.{arith}
use borrow.Author.Tests.{lt-ltb, le-ltb, le-leb, lt-leb, eq-eqb, ne_eqb, eqb-false, leb-true}
use lib.Dec.{eqb, leb, ltb}
use lib.ListN.{length, get_or}
use Rattle.head.specs.Table.{stop_of, all_present, table_of, first_place, span_of, head_refusal, head_offset}
use Rattle.head.specs.Step.{event_in, step_in, step_of}
use Rattle.head.specs.Inner.{Opened, Advances}
use Rattle.head.proofs.Filled.{stop_within}
use Rattle.head.specs.declared.Step.{Step}
use Rattle.head.specs.declared.Step.TheVariants.{Event, Ends, Cut, Refused}

module _ (stop : ℕ) (whole : Bool) (place code span : ℕ) where
  pub unlisted : span ≡ 0 → event_in stop whole place code span ≡ Refused 16 place
  unfolding event_in
  unlisted h = rw (eq-eqb span 0 h)

  module _ (listed : span ≡ 0 → ⊥) where
    pub fits : place + span ≤ stop → event_in stop whole place code span ≡ Event code place (place + 1) (span - 1) (place + span)
    unfolding event_in
    fits h = rw (ne_eqb span 0 listed, le-leb (place + span) stop h)

    pub overruns : stop < place + span → event_in stop whole place code span ≡ cond whole (Refused 17 place) Cut
    unfolding event_in
    overruns h = rw (ne_eqb span 0 listed, lt-leb (place + span) stop h)

  module _ (first : ℕ) where
    pub before_data : place < first → step_in first stop whole place code span ≡ Refused 17 place
    unfolding step_in
    before_data h = rw (lt-ltb place first h)

    module _ (starts : first ≤ place) where
      pub past_data : stop < place → step_in first stop whole place code span ≡ Refused 17 place
      unfolding step_in
      past_data h = rw (le-ltb place first starts, lt-ltb stop place h)

      pub at_end : place ≡ stop → step_in first stop whole place code span ≡ cond whole Ends Cut
      unfolding step_in
      at_end h = rw (le-ltb place first starts, le-ltb stop place (omega arith), eq-eqb place stop h)

      pub inside : place < stop → step_in first stop whole place code span ≡ event_in stop whole place code span
      unfolding step_in
      inside h = rw (le-ltb place first starts, le-ltb stop place (omega arith), ne_eqb place stop (omega arith))

-- a refused head is what stands everywhere
pub refused_step : (f : List ℕ) (place number offset : ℕ) → number ≡ head_refusal f → offset ≡ head_offset (head_refusal f) → (number ≡ 0 → ⊥) → Refused number offset ≡ step_of f place
unfolding step_of
refused_step f place number offset e o h = rw (o, ← e, ne_eqb number 0 h)

-- an accepted one gives the event data, and the table's index
module _ {codes sizes spans f : List ℕ} {n first stop : ℕ} {whole : Bool} (r : Opened codes sizes n spans first stop whole f) (place : ℕ) where
  abbrev pub span_at : ℕ
  span_at = span_of (get_or f place 0) (table_of f)

  pub opened_step : step_of f place ≡ step_in first stop whole place (get_or f place 0) span_at
  unfolding step_of
  opened_step = rw (r.accepted, r.first_is, r.stop_is, r.whole_is)

  pub opened_span : get_or f place 0 < 256 → get_or spans (get_or f place 0) 0 ≡ span_at
  opened_span h = r.index.spans_are (get_or f place 0) h

-- ---- an event ends after its place, and within the file

either : (place n : ℕ) (b : Bool) (s t : Step) → Advances place n s → Advances place n t → Advances place n (cond b s t)
either place n true s t x y = x
either place n false s t x y = y

event_advances : (stop n : ℕ) (whole : Bool) (place code span : ℕ) → stop ≤ n → Advances place n (event_in stop whole place code span)
unfolding event_in
event_advances stop n whole place code span le = go (eqb span 0) refl (leb (place + span) stop) refl
  where
    go : (b : Bool) → eqb span 0 ≡ b → (d : Bool) → leb (place + span) stop ≡ d
        → Advances place n (cond b (Refused 16 place) (cond d (Event code place (place + 1) (span - 1) (place + span)) (cond whole (Refused 17 place) Cut)))
    go true e d h = tt
    go false e true h = let some = eqb-false span 0 e in let most = leb-true (place + span) stop h in (omega arith, omega arith)
    go false e false h = either place n whole (Refused 17 place) Cut tt tt

place_advances : (first stop n : ℕ) (whole : Bool) (place code span : ℕ) → stop ≤ n → Advances place n (step_in first stop whole place code span)
unfolding step_in
place_advances first stop n whole place code span le =
    let e = event_in stop whole place code span in
    either place n (ltb place first || ltb stop place) (Refused 17 place) (cond (eqb place stop) (cond whole Ends Cut) e) tt
    (either place n (eqb place stop) (cond whole Ends Cut) e (either place n whole Ends Cut tt tt) (event_advances stop n whole place code span le))

pub step_advances : (f : List ℕ) (place : ℕ) → Advances place (length f) (step_of f place)
unfolding step_of
step_advances f place =
    let span = span_of (get_or f place 0) (table_of f) in
    let first = first_place (table_of f) in
    either place (length f) (eqb (head_refusal f) 0) (step_in first (stop_of f) (all_present f) place (get_or f place 0) span) (Refused (head_refusal f) (head_offset (head_refusal f)))
    (place_advances first (stop_of f) (length f) (all_present f) place (get_or f place 0) span (stop_within f)) tt

pub event_ends : (f : List ℕ) (place code at payload len next : ℕ) → step_of f place ≡ Event code at payload len next → (place < next) × (next ≤ length f)
event_ends f place code at payload len next e = subst (λ (s : Step). Advances place (length f) s) e (step_advances f place)

-- The table tells whether a FrameStart that the walk finds is under four bytes.
-- Assumes nothing.
use Prim.Native.Nat.{ℕ, zero, suc, ◌+◌, ◌-◌}
use mathlib.Core.Path.{◌≡◌, refl, sym, ap, ◌∙◌}
use mathlib.Core.Bool.{Bool, true, false, cond, ◌&&◌, ◌||◌}
use mathlib.Core.List.{List, ◌∷◌}
use native.Mathlib.Decide.{dec_lt, ℕ_discrete}
use native.Mathlib.Omega.{arith}
use borrow.Author.Tests.{lt-ltb, le-ltb, eq-eqb, ne_eqb, eqb-false}
use lib.Dec.{eqb, leb, ltb}
use lib.ListN.{length, get_or}
use Rattle.wire.specs.Wire.{keep}
use Rattle.head.specs.Table.{stop_of, all_present, table_of, first_place, span_of, head_refusal, head_offset}
use Rattle.head.specs.Step.{event_in, step_in, step_of}
use Rattle.head.specs.declared.Step.{Step}
use Rattle.head.specs.declared.Step.TheVariants.{Event, Ends, Cut, Refused}
use Rattle.de.specs.Walk.{turn, run, run_of}
use Rattle.index_form.specs.Form.{Row}
use Rattle.index_passes.specs.Rows.{index_rows}
use Rattle.index_calls.specs.Index.{short_start}
use Rattle.law_index.specs.Short.{short_seen}

module _ (f : List ℕ) where
  -- an event has its table's size
  abbrev Sized : Step → Type 0
  Sized (Event code at payload len next) = span_of code (table_of f) ≡ suc len
  Sized Ends = Unit {0}
  Sized Cut = Unit {0}
  Sized (Refused number offset) = Unit {0}

  either : (b : Bool) (s t : Step) → Sized s → Sized t → Sized (cond b s t)
  either true s t x y = x
  either false s t x y = y

  event_sized : (p : ℕ) → Sized (event_in (stop_of f) (all_present f) p (get_or f p 0) (span_of (get_or f p 0) (table_of f)))
  unfolding event_in
  event_sized p = go (eqb (span_of (get_or f p 0) (table_of f)) 0) refl
    where
      go : (b : Bool) → eqb (span_of (get_or f p 0) (table_of f)) 0 ≡ b
          → Sized (cond b (Refused 16 p) (cond (leb (p + span_of (get_or f p 0) (table_of f)) (stop_of f)) (Event (get_or f p 0) p (p + 1) (span_of (get_or f p 0) (table_of f) - 1) (p + span_of (get_or f p 0) (table_of f))) (cond (all_present f) (Refused 17 p) Cut)))
      go true e = tt
      go false e =
          let some = eqb-false (span_of (get_or f p 0) (table_of f)) 0 e in
          either (leb (p + span_of (get_or f p 0) (table_of f)) (stop_of f)) (Event (get_or f p 0) p (p + 1) (span_of (get_or f p 0) (table_of f) - 1) (p + span_of (get_or f p 0) (table_of f))) (cond (all_present f) (Refused 17 p) Cut)
          (omega arith) (either (all_present f) (Refused 17 p) Cut tt tt)

  step_sized : (p : ℕ) → Sized (step_of f p)
  unfolding step_of step_in
  step_sized p =
      let first = first_place (table_of f) in
      let e = event_in (stop_of f) (all_present f) p (get_or f p 0) (span_of (get_or f p 0) (table_of f)) in
      either (eqb (head_refusal f) 0) (cond (ltb p first || ltb (stop_of f) p) (Refused 17 p) (cond (eqb p (stop_of f)) (cond (all_present f) Ends Cut) e)) (Refused (head_refusal f) (head_offset (head_refusal f)))
      (either (ltb p first || ltb (stop_of f) p) (Refused 17 p) (cond (eqb p (stop_of f)) (cond (all_present f) Ends Cut) e) tt
      (either (eqb p (stop_of f)) (cond (all_present f) Ends Cut) e (either (all_present f) Ends Cut tt tt) (event_sized p)))
      tt

  -- of rows and of events, one after another
  abbrev by_table : List Row → Bool
  by_table rows = ltb 0 (length rows) && ltb (span_of 0x3A (table_of f)) 5

  one_more : (code at payload len next : ℕ) (ss : List Step) → span_of code (table_of f) ≡ suc len → short_seen ss ≡ by_table (index_rows f ss)
      → short_seen (Event code at payload len next ∷ ss) ≡ by_table (index_rows f (Event code at payload len next ∷ ss))
  unfolding short_seen index_rows keep
  one_more code at payload len next ss e h = elim (ℕ_discrete code 0x3A) [
    | no n ↦ rw (ne_eqb code 0x3A n) h
    | yes c ↦
        let s : span_of 0x3A (table_of f) ≡ suc len = ap (λ (x : ℕ). span_of x (table_of f)) (sym c) ∙ e in
        rw (eq-eqb code 0x3A c, h, lt-ltb 0 (suc (length (index_rows f ss))) (omega arith), s)
        (elim (dec_lt len 4) [
          | yes l ↦ rw (lt-ltb len 4 l, lt-ltb (suc len) 5 (omega arith))
          | no l ↦ rw (le-ltb len 4 (omega arith), le-ltb (suc len) 5 (omega arith)) (and_no (ltb 0 (length (index_rows f ss))))
        ])
  ]
    where
      and_no : (b : Bool) → (b && false) ≡ false
      and_no true = refl
      and_no false = refl

  seen_short : (n p : ℕ) → short_seen (run n f p).seen ≡ by_table (index_rows f (run n f p).seen)
  unfolding run short_seen index_rows
  seen_short zero p = refl
  seen_short (suc n) p = go (step_of f p) (step_sized p) (λ next. seen_short n next)
    where
      go : (s : Step) → Sized s → ((next : ℕ) → short_seen (run n f next).seen ≡ by_table (index_rows f (run n f next).seen)) → short_seen (turn s (run n f) p).seen ≡ by_table (index_rows f (turn s (run n f) p).seen)
      go (Event code at payload len next) z again = one_more code at payload len next (run n f next).seen z (again next)
      go Ends z again = refl
      go Cut z again = refl
      go (Refused number offset) z again = refl

  -- 24 for a FrameStart under four bytes is asked of the events that are found
  pub short_seen_lem : short_start f ≡ short_seen (run_of f).seen
  unfolding short_start
  short_seen_lem = sym (seen_short (length f) (first_place (table_of f)))

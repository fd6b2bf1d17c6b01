-- A file of any table and any events that it lists, cut after any byte:
--
--   Cut that file after any byte: once the table is whole, the reader returns exactly the events after the table that lie wholly before
--   the cut, in order and unaltered, and the exact number of stray event bytes. It calls the event data whole exactly when all of it is
--   there. A cut before the table is whole is refused by name.
--
-- `events_read` is what the steps of the walk return, codes and payload bytes; `wholly n es` are the events in the first n bytes of es.
-- Assumes nothing.
use Prim.Native.Nat.{ℕ, ◌+◌, ◌-◌, ◌^◌, ◌≤◌, ◌<◌, min}
use mathlib.Core.Path.{◌≡◌, sym, ap, ◌∙◌}
use mathlib.Core.List.{List, [], ◌++◌}
use mathlib.Core.Bool.{true}
use native.Mathlib.Omega.{arith}
use borrow.Author.Tests.{le-leb}
use lib.Dec.{leb}
use lib.ListN.{length, take, length-append}
use lib.Seq.{take-length}
use Rattle.format.specs.File.{Entry, Ev, table_bytes, events_bytes, file_of, Fresh, Listed}
use Rattle.format.proofs.Files.{length_table}
use Rattle.head.specs.Table.{first_place}
use Rattle.head.specs.Step.{step_of}
use Rattle.de.specs.Walk.{walk_of}
use Rattle.de.specs.Cut.{wholly, events_read}
use Rattle.head.specs.declared.Step.TheVariants as step
use Rattle.de.specs.declared.Walked.TheVariants as walked
use Rattle.de.proofs.Runs.{refused}
use Rattle.head.proofs.Written.{cut_14, cut_15, length_file}
use Rattle.de.proofs.Cuts.{cut_events, cut_walk, wholly_all}

-- any table in which no code stands twice, any events that it lists, any tail; the length fits its four bytes
module _ (t : List Entry) (es : List Ev) (tail : List ℕ) (fresh : Fresh [] t) (listed : Listed t es)
    (fits : length (table_bytes t ++ events_bytes es) < 2 ^ 32) where
  -- the file after whose first k bytes it is cut, the bytes of events before that cut, and the events wholly in them
  abbrev pub cut : ℕ → List ℕ
  cut k = take k (file_of t es tail)

  abbrev pub present : ℕ → ℕ
  present k = min (k - first_place t) (length (events_bytes es))

  abbrev pub before : ℕ → List Ev
  before k = wholly (present k) es

  -- the declared end of the event data
  abbrev pub end : ℕ
  end = 15 + length (table_bytes t ++ events_bytes es)

  -- before the table is whole: refused, by the walk and by a step at any place
  pub under_15 : (k : ℕ) → k < 15 → (walk_of (cut k) ≡ walked.Refused 14 0) × ((place : ℕ) → step_of (cut k) place ≡ step.Refused 14 0)
  under_15 k h = refused (cut k) 13 (cut_14 (file_of t es tail) k h)

  pub in_table : (k : ℕ) → 15 ≤ k → k < first_place t → (walk_of (cut k) ≡ walked.Refused 15 15) × ((place : ℕ) → step_of (cut k) place ≡ step.Refused 15 15)
  unfolding file_of
  in_table k h l = refused (cut k) 14 (cut_15 t (length (table_bytes t ++ events_bytes es)) (events_bytes es ++ tail) k h l)

  -- once it is whole: exactly the events wholly before the cut, in order, their codes and payloads unaltered
  pub events : (k : ℕ) → first_place t ≤ k → events_read (cut k) ≡ before k
  events k h = cut_events t es tail k fresh listed h fits

  -- their number, the bytes of events after them, whole exactly when all declared bytes are there, and the place after them
  pub walk : (k : ℕ) → first_place t ≤ k
      → walk_of (cut k) ≡ walked.Done (length (before k)) (present k - length (events_bytes (before k))) (leb end k) (first_place t + length (events_bytes (before k)))
  walk k h = cut_walk t es tail k fresh listed h fits

  -- uncut: all of them, none stray, and whole
  length_is : length (file_of t es tail) ≡ first_place t + (length (events_bytes es) + length tail)
  unfolding file_of
  length_is = length_file t (length (table_bytes t ++ events_bytes es)) (events_bytes es ++ tail) fits ∙ rw (length-append (events_bytes es) tail)

  end_is : end ≡ first_place t + length (events_bytes es)
  end_is = omega (arith, length-append (table_bytes t) (events_bytes es), length_table t)

  all_before : before (length (file_of t es tail)) ≡ es
  all_before = let e : present (length (file_of t es tail)) ≡ length (events_bytes es) = omega (arith, length_is) in rw (e, wholly_all es)

  pub uncut_events : events_read (file_of t es tail) ≡ es
  uncut_events = ap events_read (sym (take-length (file_of t es tail))) ∙ events (length (file_of t es tail)) (omega (arith, length_is)) ∙ all_before

  pub uncut_walk : walk_of (file_of t es tail) ≡ walked.Done (length es) 0 true end
  uncut_walk =
      let k = length (file_of t es tail) in
      let none : present k - length (events_bytes es) ≡ 0 = omega (arith, length_is) in
      ap walk_of (sym (take-length (file_of t es tail))) ∙ walk k (omega (arith, length_is)) ∙ rw (all_before, none, le-leb end k (omega (arith, length_is, end_is)), end_is)

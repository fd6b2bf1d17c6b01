-- How many rows a cut has: as many as FrameStarts of the whole file end within it; so its index is that of the whole file's first rows.
-- Assumes nothing.
use Prim.Native.Nat.{ℕ, zero, suc, ◌+◌, ◌<◌}
use mathlib.Core.Path.{◌≡◌, refl, sym, ap, ap₂, ◌∙◌}
use mathlib.Core.Bool.{Bool, true, false, cond}
use mathlib.Core.List.{List, [], ◌∷◌}
use native.Mathlib.Decide.{dec_lt}
use native.Mathlib.Omega.{arith}
use borrow.Author.Tests.{le-leb, lt-leb}
use lib.Dec.{eqb, leb}
use lib.ListN.{length, take, length-append}
use lib.Seq.{take_at}
use Rattle.wire.specs.Wire.{number, part, keep}
use Rattle.head.specs.Table.{head_refusal}
use Rattle.head.specs.Step.{step_of}
use Rattle.head.specs.declared.Step.{Step}
use Rattle.head.specs.declared.Step.TheVariants.{Event, Ends, Cut, Refused}
use Rattle.head.proofs.Steps.{event_ends}
use Rattle.de.specs.Walk.{turn, run, run_of, walk_of}
use Rattle.de.specs.Numbers.{walk_numbers}
use Rattle.de.specs.declared.Walked.{Walked}
use Rattle.de.proofs.Runs.{refused}
use Rattle.index_form.specs.Form.{Row, index_bytes}
use Rattle.index_passes.specs.Rows.{index_row, index_rows, rows_in, index_in}
use Rattle.index_calls.specs.Index.{short_start, replay_refusal}
use Rattle.index_calls.specs.Inner.{later_refusal}
use Rattle.index_calls.proofs.Laws.{later_none}
use Rattle.law_index.specs.Before.{ending_within, starts, starts_within, Begins}
use Rattle.law_index.proofs.Through.{else_none}
use Rattle.law_index.proofs.Cuts.{rows_of_cut, cut_begins}

-- ---- a count over all events

-- an event ends behind the one before it: from past the cut on none ends within it
none_within : (n : ℕ) (f : List ℕ) (p k : ℕ) → k < p → starts_within k (run n f p).seen ≡ 0
unfolding run starts_within
none_within zero f p k h = refl
none_within (suc n) f p k h = go (step_of f p) refl (λ next. none_within n f next k)
  where
    go : (s : Step) → step_of f p ≡ s → ((next : ℕ) → k < next → starts_within k (run n f next).seen ≡ 0) → starts_within k (turn s (run n f) p).seen ≡ 0
    go (Event code at payload len next) e again =
        let l : k < next = let m = event_ends f p code at payload len next e in omega (arith, m.0) in
        rw (lt-leb next k l) (ap (λ (x : ℕ). 0 + x) (again next l))
    go Ends e again = refl
    go Cut e again = refl
    go (Refused c o) e again = refl

row_count_lem : (f : List ℕ) (code at payload len next : ℕ) → length (index_row f (Event code at payload len next)) ≡ starts (Event code at payload len next)
unfolding keep
row_count_lem f code at payload len next = go (eqb code 0x3A)
  where
    go : (b : Bool) → length {A = Row} (keep b (record { id = number (part f payload 4); offset = at } ∷ [])) ≡ cond b 1 0
    go true = refl
    go false = refl

-- the events before a cut are the first ones; those that end within it are no others
counted : (n : ℕ) (f : List ℕ) (p k : ℕ) → length (index_rows f (ending_within k (run n f p).seen)) ≡ starts_within k (run n f p).seen
unfolding run index_rows ending_within starts_within
counted zero f p k = refl
counted (suc n) f p k = go (step_of f p) (λ next. counted n f next k)
  where
    go : (s : Step) → ((next : ℕ) → length (index_rows f (ending_within k (run n f next).seen)) ≡ starts_within k (run n f next).seen)
        → length (index_rows f (ending_within k (turn s (run n f) p).seen)) ≡ starts_within k (turn s (run n f) p).seen
    go (Event code at payload len next) again = elim (dec_lt k next) [
      | yes l ↦ rw (lt-leb next k l) (sym (ap (λ (x : ℕ). 0 + x) (none_within n f next k l)))
      | no l ↦ rw (le-leb next k (omega arith))
          (length-append (index_row f (Event code at payload len next)) (index_rows f (ending_within k (run n f next).seen))
          ∙ ap₂ (λ (a b : ℕ). a + b) (row_count_lem f code at payload len next) (again next))
    ]
    go Ends again = refl
    go Cut again = refl
    go (Refused c o) again = refl

-- ---- the index of a cut

begins_take : {A : Type 0} (xs ys : List A) (n : ℕ) → length xs ≡ n → Begins xs ys → xs ≡ take n ys
begins_take xs ys n e b = sym (ap (take n) b.is ∙ take_at xs b.rest n e)

-- a walk that is not refused has an accepted head
head_accepted : (f : List ℕ) → (walk_numbers (walk_of f)).number ≡ 0 → head_refusal f ≡ 0
head_accepted f e = go (head_refusal f) refl
  where
    go : (n : ℕ) → head_refusal f ≡ n → n ≡ 0
    go zero h = refl
    go (suc n) h = absurd (let z = ap (λ (w : Walked). (walk_numbers w).number) (refused f n h).0 in omega (arith, z, e))

module _ (f : List ℕ) (k : ℕ) (indexed : replay_refusal f ≡ 0) (cut-accepted : head_refusal (take k f) ≡ 0) where
  asked : ((walk_numbers (walk_of f)).number ≡ 0) × (later_refusal f ≡ 0)
  unfolding replay_refusal
  asked = else_none (walk_numbers (walk_of f)).number (later_refusal f) indexed

  long : short_start f ≡ false
  long = (later_none f asked.1).0

  accepted : head_refusal f ≡ 0
  accepted = head_accepted f asked.0

  -- as many as have their FrameStart, whole, before the cut
  pub frames_of_cut : length (rows_in (take k f)) ≡ starts_within k (run_of f).seen
  frames_of_cut = ap length (rows_of_cut f k accepted cut-accepted long) ∙ counted (length f) f _ k

  pub first_rows : rows_in (take k f) ≡ take (starts_within k (run_of f).seen) (rows_in f)
  first_rows = begins_take (rows_in (take k f)) (rows_in f) (starts_within k (run_of f).seen) frames_of_cut (cut_begins f k accepted cut-accepted long)

  -- the index of a cut has the first rows of the whole file's, so many
  pub index_of_cut : index_in (take k f) ≡ index_bytes (take (starts_within k (run_of f).seen) (rows_in f))
  index_of_cut = ap index_bytes first_rows

-- Outcomes of the calls, from the judgement of a file.
-- Assumes nothing.
use mathlib.Core.Path.{◌≡◌, sym, ap₂, subst, ◌∙◌}
use mathlib.Core.Bool.{Bool, true, false}
use mathlib.Core.List.{List}
use Prim.Native.Nat.{ℕ, ◌≤◌}
use native.Mathlib.Omega.{arith}
use lib.ListN.{length}
use Rattle.head.specs.Table.{table_of, first_place}
use Rattle.read_judge.specs.Found.{version_of}
use Rattle.newer_judge.specs.Inner.{Declines, Shows, Tells}
use Rattle.newer_judge.specs.Inner as inner
use Rattle.read_judge.specs.declared.Verdict.{Verdict}
use Rattle.read_judge.specs.declared.Verdict.TheVariants as verdict
use Rattle.read_judge.specs.declared.parts.Parts.{Parts}
use Rattle.measure.specs.declared.lengths.Lengths.{Lengths}
use Rattle.measure.specs.Game.{Kept, kept_read, lengths_of}
use Rattle.measure.specs.Read.{unmeasured, measured_in, unopened, opened_in, kept_short, kept_over, MeasureOutcome, ReadOutcome, early, none, big, short, found}
use Rattle.measure.specs.Inner.{lengths_in, short_by}
use Rattle.measure.specs.declared.Measured.{Measured}
use Rattle.measure.specs.declared.Opened.{Opened}
use Rattle.measure.proofs.Answers.{lengths_in_lem, short_is}

-- ---- a verdict

pub refuses : (f : List ℕ) (w : Verdict) (number offset : ℕ) → w ≡ verdict.Refused number offset → Tells f w → Declines f number offset
refuses f w number offset e h = subst (λ (x : Verdict). Tells f x) e h

pub accepts : (f : List ℕ) (w : Verdict) (first stop : ℕ) (p : Parts) → w ≡ verdict.Held first stop p → Tells f w → Shows f first stop p
accepts f w first stop p e h = subst (λ (x : Verdict). Tells f x) e h

-- what the table's entry is read by
pub first_room : (f : List ℕ) (first stop : ℕ) (p : Parts) → Shows f first stop p → (first ≡ first_place (table_of f)) × (first ≤ length f)
first_room f first stop p a = (a.first_is, omega (arith, a.shown.block_in))

-- ---- measure

pub not_measured : (f : List ℕ) (number offset : ℕ) (m : Measured) → Declines f number offset → m ≡ unmeasured number offset → MeasureOutcome f m
not_measured f number offset m (inner.early n e o) h = early n (h ∙ ap₂ unmeasured e o)
not_measured f number offset m (inner.none z n e o) h = none z n (h ∙ ap₂ unmeasured e o)
not_measured f number offset m (inner.big z x b e o) h = big z x b (h ∙ ap₂ unmeasured e o)

pub held_measured : (f : List ℕ) (first stop : ℕ) (p : Parts) (m : Measured) (a : Shows f first stop p) → m ≡ measured_in f a.shown.found.replay → MeasureOutcome f m
held_measured f first stop p m a e = found a.opening a.shown.found a.small e

-- ---- read

pub not_opened : (f : List ℕ) (number offset : ℕ) (given left : Kept) (r : Opened) → Declines f number offset → r ≡ unopened number offset → left ≡ given → ReadOutcome f given r left
not_opened f number offset given left r (inner.early n e o) h k = early n (h ∙ ap₂ unopened e o) k
not_opened f number offset given left r (inner.none z n e o) h k = none z n (h ∙ ap₂ unopened e o) k
not_opened f number offset given left r (inner.big z x b e o) h k = big z x b (h ∙ ap₂ unopened e o) k

module _ (f : List ℕ) (first stop : ℕ) (p : Parts) (given left : Kept) (r : Opened) (a : Shows f first stop p) where
  -- the stores are judged by their lengths
  pub short_as : (b : Bool) (have need : Lengths) → b ≡ short_by have need → have ≡ lengths_of given → need ≡ lengths_in p
      → b ≡ kept_short given (kept_read (version_of f) a.shown.found.replay)
  short_as b have need e h n = e ∙ ap₂ short_by h (n ∙ lengths_in_lem f first stop p a) ∙ short_is given (kept_read (version_of f) a.shown.found.replay)

  pub held_short : (b : Bool) → b ≡ kept_short given (kept_read (version_of f) a.shown.found.replay) → b ≡ true → r ≡ unopened 12 0 → left ≡ given → ReadOutcome f given r left
  held_short b e t h k = short a.opening a.shown.found a.small (sym e ∙ t) h k

  pub held_opened : (b : Bool) → b ≡ kept_short given (kept_read (version_of f) a.shown.found.replay) → b ≡ false → r ≡ opened_in f a.shown.found.replay
      → left ≡ kept_over given (kept_read (version_of f) a.shown.found.replay) → ReadOutcome f given r left
  held_opened b e t h k = found a.opening a.shown.found a.small (sym e ∙ t) h k

-- What functions promise each other of eight frames a step apart whose events have the same codes.
-- Assumes nothing.
use Rattle.std.specs.Prelude.{ℕ, zero, suc, ◌+◌, ◌*◌, ◌≤◌, ◌<◌, ◌≡◌, Bool, true, List, length, get_or, set}
use Rattle.read_event.specs.Inner.{span_by}
use Rattle.read_event.specs.declared.spans.Spans.{Spans}

-- eight bytes a step apart
abbrev pub Same : List ℕ → ℕ → ℕ → Type 0
Same file step at = (t : ℕ) → t < 8 → get_or file (at + t * step) 0 ≡ get_or file at 0

-- eight frames a step apart begin before a place, and there is room for them
pub record Ahead (z : Spans) (start : Bool) (file : List ℕ) (at stop step first frames : ℕ) : Type 0 where
  pub starts : start ≡ true
  pub forward : z.start ≤ step
  pub inside : at + 8 * step ≤ stop
  pub whole : stop ≤ length file
  pub room : first + 7 ≤ frames
  pub code : get_or file at 0 ≡ 0x3A
  pub same : Same file step at

-- an event that begins no frame, with seven of the same code a step apart
pub record GoesOn (z : Spans) (file : List ℕ) (e next step span : ℕ) : Type 0 where
  pub code : get_or file e 0 ≡ 0x3A → ⊥
  pub size : span ≡ span_by z (get_or file e 0)
  pub inside : e + span ≤ next
  pub same : Same file step e

-- n places a step apart, into the table from i on
unfoldable pub steps_put : ℕ → ℕ → ℕ → ℕ → List ℕ → List ℕ
steps_put i at step zero xs = xs
steps_put i at step (suc t) xs = set (steps_put i at step t xs) (i + t) (at + t * step)

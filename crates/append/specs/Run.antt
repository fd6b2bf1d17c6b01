-- A run of frames at a place of an output, and when it is refused.
-- Assumes nothing.
use Rattle.std.specs.Prelude.{ℕ, zero, suc, ◌+◌, ◌-◌, ◌≡◌, Bool, ◌||◌, List, [], ◌∷◌, ◌++◌, ltb, length, Result, Ok, Err}
use Rattle.wire.specs.Wire.{splice, ranged}
use Rattle.format.specs.File.{Ev, events_bytes}
use Rattle.format.specs.Refusal.{refuse, lowest}
use Rattle.format.specs.Refused.{number_of}
use Rattle.format.specs.declared.refusal.Refusal as code
use Rattle.game.specs.Stores.{Lent}
use Rattle.game.specs.declared.frames.Frames.{Frames}
use Rattle.frames.specs.Judge.{refusals}
use Rattle.events.specs.Events.{frame_events}

-- ---- the run: the events of the frames from a on and before b

unfoldable pub run_events : Frames → Lent → ℕ → ℕ → List Ev
run_events f s a b = ranged (frame_events f s) a (b - a)

abbrev pub run_bytes : Frames → Lent → ℕ → ℕ → List ℕ
run_bytes f s a b = events_bytes (run_events f s a b)

-- ---- the refusals, in their order

-- 13: a range that is reversed, or that ends beyond the frames
unfoldable pub outside_frames : Frames → ℕ → ℕ → Bool
outside_frames f a b = ltb b a || ltb f.counts.frames b

-- neither codes nor metadata are given with a run; an output is too short also where the place is beyond it
unfoldable pub run_refusal : Frames → Lent → ℕ → ℕ → ℕ → ℕ → ℕ
run_refusal f s a b place room =
    lowest
    (refusals f s 0 0
    ++ (refuse 13 (outside_frames f a b)
    ∷ refuse 12 (ltb room (place + length (run_bytes f s a b)))
    ∷ []))

-- ---- what the calls answer, and what the output is afterwards

-- an answer in numbers: 0 for a run, 1 for a refusal; the refusal's number; the end place
pub record AppendedNumbers : Type 0 where
  pub kind : ℕ
  pub number : ℕ
  pub end : ℕ

-- of a refusal's number, 0 where none applies, and the end place
abbrev pub append_numbers : ℕ → ℕ → AppendedNumbers
append_numbers zero n = record { kind = 0; number = 0; end = n }
append_numbers (suc k) n = record { kind = 1; number = suc k; end = 0 }

-- of what the calls answer
abbrev pub appended_numbers : Result ℕ code.Refusal → AppendedNumbers
appended_numbers (Ok n) = record { kind = 0; number = 0; end = n }
appended_numbers (Err r) = record { kind = 1; number = number_of r; end = 0 }

-- the output: the run's bytes from the place on and the rest as it was, or all as it was
abbrev pub left_at : ℕ → List ℕ → ℕ → List ℕ → List ℕ
left_at zero out place bytes = splice out place bytes
left_at (suc k) out place bytes = out

-- the run from a up to b; frame i alone is the run from i up to i + 1
pub record RunOutcome (f : Frames) (s : Lent) (a b place : ℕ) (out : List ℕ) (r : Result ℕ code.Refusal) (out' : List ℕ) : Type 0 where
  pub answer_is : appended_numbers r ≡ append_numbers (run_refusal f s a b place (length out)) (place + length (run_bytes f s a b))
  pub out_is : out' ≡ left_at (run_refusal f s a b place (length out)) out place (run_bytes f s a b)

-- What the calls that change lent bytes answer, and what those bytes are afterwards.
-- Assumes nothing.
use Rattle.std.specs.Prelude.{ℕ, ◌+◌, ◌≡◌, List, length}
use Rattle.rollback.specs.Mask.{answer_of, mask_after, scratch_after}
use Rattle.game.specs.Stores.{Lent, Stores}
use Rattle.ser.specs.Write.{write_numbers, left, refusal, file}
use Rattle.append.specs.Run.{run_bytes, run_refusal, append_numbers, left_at}
use Rattle.game.specs.declared.Game.{Game}
use Rattle.game.specs.declared.frames.Frames.{Frames}
use Rattle.answers.specs.declared.SlpAppended.{SlpAppended}
use Rattle.answers.specs.declared.SlpWritten.{SlpWritten}
use Rattle.answers.specs.Answers.{written_struct, appended_struct, keep_of}

pub record MaskOutcome (ids : List ℕ) (keep : ℕ) (mask scratch : List ℕ) (number : ℕ) (mask-after scratch-after : List ℕ) : Type 0 where
  pub number_is : number ≡ (answer_of ids (length mask) (length scratch)).number
  pub mask_is : mask-after ≡ mask_after (answer_of ids (length mask) (length scratch)) (keep_of keep) ids mask
  pub scratch_is : scratch-after ≡ scratch_after (answer_of ids (length mask) (length scratch)) ids scratch

pub record WriteOutcome (g : Game) (s : Stores) (out : List ℕ) (r : SlpWritten) (out' : List ℕ) : Type 0 where
  pub answer_is : r ≡ written_struct (write_numbers (refusal g s (length out)) (length (file g s)))
  pub out_is : out' ≡ left (refusal g s (length out)) out (file g s)

-- a run of frames from a up to b; frame i alone is the run from i up to i + 1
pub record AppendOutcome (f : Frames) (s : Lent) (a b place : ℕ) (out : List ℕ) (r : SlpAppended) (out' : List ℕ) : Type 0 where
  pub answer_is : r ≡ appended_struct (append_numbers (run_refusal f s a b place (length out)) (place + length (run_bytes f s a b)))
  pub out_is : out' ≡ left_at (run_refusal f s a b place (length out)) out place (run_bytes f s a b)

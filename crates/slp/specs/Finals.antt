-- What the writer of final frames answers, and what output and scratch are afterwards.
-- Assumes nothing.
use Rattle.std.specs.Prelude.{ℕ, ◌≡◌, List, length}
use Rattle.game.specs.Stores.{Stores}
use Rattle.game.specs.declared.Game.{Game}
use Rattle.ser.specs.Write.{write_numbers, left}
use Rattle.final_file.specs.Write.{final_file, final_refusal, scratch_left}
use Rattle.answers.specs.declared.SlpWritten.{SlpWritten}
use Rattle.answers.specs.Answers.{written_struct}

pub record FinalWriteOutcome (g : Game) (s : Stores) (out scratch : List ℕ) (r : SlpWritten) (out' scratch' : List ℕ) : Type 0 where
  pub answer_is : r ≡ written_struct (write_numbers (final_refusal g s (length scratch) (length out)) (length (final_file g s)))
  pub out_is : out' ≡ left (final_refusal g s (length scratch) (length out)) out (final_file g s)
  pub scratch_is : scratch' ≡ scratch_left (final_refusal g s (length scratch) (length out)) s.lent.cells.ids scratch

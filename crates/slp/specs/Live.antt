-- What the calls for a live recording answer, and what the output is afterwards.
-- Assumes nothing.
use Rattle.std.specs.Prelude.{ℕ, ◌+◌, ◌≡◌, List, length}
use Rattle.append.specs.Run.{append_numbers, left_at}
use Rattle.answers.specs.declared.SlpAppended.{SlpAppended}
use Rattle.answers.specs.declared.SlpClosed.{SlpClosed}
use Rattle.answers.specs.Answers.{appended_struct, closed_struct}
use Rattle.live.specs.Head.{Opening, head_bytes, write_head_refusal}
use Rattle.live.specs.End.{Closing, ends_bytes, end_bytes, end_refusal, close_numbers}

pub record HeadCall (o : Opening) (out : List ℕ) (r : SlpAppended) (out' : List ℕ) : Type 0 where
  pub answer_is : r ≡ appended_struct (append_numbers (write_head_refusal o (length out)) (length (head_bytes o)))
  pub out_is : out' ≡ left_at (write_head_refusal o (length out)) out 0 (head_bytes o)

pub record EndCall (c : Closing) (place : ℕ) (out : List ℕ) (r : SlpClosed) (out' : List ℕ) : Type 0 where
  pub answer_is : r ≡ closed_struct (close_numbers (end_refusal c place (length out)) (place + length (ends_bytes c)) (place + length (end_bytes c)))
  pub out_is : out' ≡ left_at (end_refusal c place (length out)) out place (end_bytes c)

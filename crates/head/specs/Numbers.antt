-- The numbers and values of each answer of a step, 0 where it has none.
-- Assumes nothing.
use Rattle.std.specs.Prelude.{ℕ}
use Rattle.head.specs.declared.Step.{Step}
use Rattle.head.specs.declared.Step.TheVariants.{Event, Ends, Cut, Refused}

-- a step: 0 for an event, 1 where the data ends, 2 where it is cut, 3 for a refusal; the refusal's number and offset; the event's values
pub record StepNumbers : Type 0 where
  pub kind : ℕ
  pub number : ℕ
  pub offset : ℕ
  pub code : ℕ
  pub at : ℕ
  pub payload : ℕ
  pub len : ℕ
  pub next : ℕ

abbrev pub step_numbers : Step → StepNumbers
step_numbers (Event code at payload len next) = record { kind = 0; number = 0; offset = 0; code = code; at = at; payload = payload; len = len; next = next }
step_numbers Ends = record { kind = 1; number = 0; offset = 0; code = 0; at = 0; payload = 0; len = 0; next = 0 }
step_numbers Cut = record { kind = 2; number = 0; offset = 0; code = 0; at = 0; payload = 0; len = 0; next = 0 }
step_numbers (Refused number offset) = record { kind = 3; number = number; offset = offset; code = 0; at = 0; payload = 0; len = 0; next = 0 }

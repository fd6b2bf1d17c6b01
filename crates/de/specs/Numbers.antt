-- The numbers and values of each answer of a walk, 0 where it has none.
-- Assumes nothing.
use Rattle.std.specs.Prelude.{ℕ, cond}
use Rattle.de.specs.declared.Walked.{Walked}
use Rattle.de.specs.declared.Walked.TheVariants.{Done, Refused}

-- a walk: 0 where it came to the data's end or to a cut, 1 for a refusal; the refusal's number and offset; its events, stray bytes, 1 if the
-- event data is whole, and the place where it stopped
pub record WalkNumbers : Type 0 where
  pub kind : ℕ
  pub number : ℕ
  pub offset : ℕ
  pub events : ℕ
  pub stray : ℕ
  pub whole : ℕ
  pub place : ℕ

abbrev pub walk_numbers : Walked → WalkNumbers
walk_numbers (Done events stray whole place) = record { kind = 0; number = 0; offset = 0; events = events; stray = stray; whole = cond whole 1 0; place = place }
walk_numbers (Refused number offset) = record { kind = 1; number = number; offset = offset; events = 0; stray = 0; whole = 0; place = 0 }

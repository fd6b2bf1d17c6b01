-- Some events stand between two places of a file.
-- Assumes nothing.
use Rattle.std.specs.Prelude.{ℕ, List}
use Rattle.format.specs.File.{Ev}
use Rattle.read_judge.specs.Inner.{Covers}

pub record SomeCovers (f spans : List ℕ) (place stop : ℕ) : Type 0 where
  pub raw : List Ev
  pub covers : Covers f spans place stop raw

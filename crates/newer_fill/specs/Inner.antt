-- What functions promise each other of a newer recorder's frames in a file.
-- Assumes nothing.
use Rattle.std.specs.Prelude.{ℕ, List}
use Rattle.format.specs.File.{Ev}
use Rattle.game.specs.declared.frames.Frames.{Frames}
use Rattle.grammar.specs.WellFormed.{Each}
use Rattle.known.specs.Known.{known_of}
use Rattle.read_judge.specs.Inner.{Covers}
use Rattle.read_event.specs.Inner.{plan_of, Sized}

-- these events stand from a place to another, and those that are known have the sizes of the input's columns
pub record SpelledNewer (f : Frames) (file spans : List ℕ) (first stop : ℕ) (raw : List Ev) : Type 0 where
  pub covers : Covers file spans first stop raw
  pub sized : Each (Sized (plan_of f)) (known_of f.version raw)

pub record SomeNewer (f : Frames) (file spans : List ℕ) (first stop : ℕ) : Type 0 where
  pub raw : List Ev
  pub spelled : SpelledNewer f file spans first stop raw

-- What functions promise each other of a newer recorder's events: those that are known stand among the file's own events, each with the bytes of its size at the front.
-- Assumes nothing.
use Rattle.std.specs.Prelude.{ℕ, ◌≡◌, List}
use Rattle.format.specs.File.{Ev}
use Rattle.format.specs.declared.version.Version.{Version}
use Rattle.grammar.specs.WellFormed.{Each}
use Rattle.known.specs.Known.{known_of}
use Rattle.read_judge.specs.Inner.{Covers}
use Rattle.read_event.specs.Inner.{Told}
use Rattle.read_event.specs.Parts.{SizedBy, fold}
use Rattle.read_event.specs.declared.spans.Spans.{Spans}

-- these events are the known ones of those that stand from a place to another
pub record KnownIn (z : Spans) (file spans : List ℕ) (at stop : ℕ) (es : List Ev) : Type 0 where
  pub version : Version
  pub raw : List Ev
  pub covers : Covers file spans at stop raw
  pub known_are : es ≡ known_of version raw
  pub sized : Each (SizedBy z) es

pub record SomeKnown (z : Spans) (file spans : List ℕ) (at stop : ℕ) : Type 0 where
  pub events : List Ev
  pub known : KnownIn z file spans at stop events

-- what is left to do gives what was to do
pub record LeftIn {S : Type 0} (go : S → Told → S) (z : Spans) (file spans : List ℕ) (at stop : ℕ) (s all : S) : Type 0 where
  pub events : List Ev
  pub known : KnownIn z file spans at stop events
  pub same : fold go events s ≡ all

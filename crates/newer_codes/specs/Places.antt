-- What functions promise each other of places among a newer recorder's events.
-- Assumes nothing.
use Rattle.std.specs.Prelude.{ℕ, ◌+◌, ◌≤◌, ◌≡◌, true, List, [], ◌∷◌, ◌++◌, length}
use Rattle.format.specs.File.{Ev, events_bytes}
use Rattle.format.specs.declared.version.Version.{Version}
use Rattle.known.specs.Known.{is_known, known_of}
use Rattle.newer_events.specs.Some.{SomeCovers}

-- a place in a file from which events go to stop, with spans by code
pub record Laid (file spans : List ℕ) (at stop : ℕ) : Type 0 where
  pub some : SomeCovers file spans at stop
  pub within : stop ≤ length file
  pub all_codes : length spans ≡ 256

-- the first event is known, where there is one
abbrev pub FirstKnown : List Ev → Type 0
FirstKnown [] = Unit {0}
FirstKnown (e ∷ es) = is_known e.code ≡ true

-- from one place to another stand unknown events
pub record Passed (at : ℕ) (raw : List Ev) (place : ℕ) : Type 0 where
  pub odd : List Ev
  pub rest : List Ev
  pub parted : raw ≡ odd ++ rest
  pub place_is : place ≡ at + length (events_bytes odd)
  pub unknown : (v : Version) → known_of v odd ≡ []
  pub next : FirstKnown rest

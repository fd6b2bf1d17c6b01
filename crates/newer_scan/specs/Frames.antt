-- What a pass over a newer recorder's events says of the frames: the machine over those events that 3.18 knows.
-- Assumes nothing.
use Rattle.std.specs.Prelude.{ℕ, ◌+◌, ◌≡◌, true, List, [], ◌∷◌, ◌++◌, length}
use Rattle.std.proofs.Math.Option.{none, some}
use Rattle.format.specs.File.{Ev, events_bytes}
use Rattle.format.specs.declared.version.Version.{Version}
use Rattle.grammar.specs.WellFormed.{ascending}
use Rattle.grammar.specs.Machine.{family_of, initial, rest}
use Rattle.known.specs.Known.{is_known, known_of}
use Rattle.read_scan.specs.Counts.{no_tally, tally_of}
use Rattle.read_scan.specs.declared.tally.Tally.{Tally}
use Rattle.read_scan.specs.declared.Ran.{Ran}
use Rattle.read_scan.specs.declared.Ran.TheVariants.{Ended, Wrong}

-- there are none, or the first is known and none of a frame's
abbrev pub Behind : List Ev → Type 0
Behind [] = Unit {0}
Behind (e ∷ es) = (is_known e.code ≡ true) × (family_of e.code ≡ none)

-- the frames end at a place, with what was counted of them
pub record FramesEnd (v : Version) (first : ℕ) (raw : List Ev) (at : ℕ) (t : Tally) : Type 0 where
  pub before : List Ev
  pub after : List Ev
  pub parted : raw ≡ before ++ after
  pub at_is : at ≡ first + length (events_bytes before)
  pub rest_is : rest v ascending initial (known_of v raw) ≡ some (known_of v after)
  pub tally_is : t ≡ tally_of 8 0 no_tally (known_of v before)
  pub tally_all : tally_of 8 0 no_tally (known_of v raw) ≡ t
  pub behind : Behind after

abbrev pub FramesRan : Version → ℕ → List Ev → Ran → Type 0
FramesRan v first raw (Ended at t) = FramesEnd v first raw at t
FramesRan v first raw Wrong = rest v ascending initial (known_of v raw) ≡ none

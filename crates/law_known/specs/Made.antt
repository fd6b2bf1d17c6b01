-- A 3.18 replay's events made newer (2026-12): another version, bytes added behind payloads, and events of unknown codes mixed in.
-- Assumes nothing.
use Rattle.std.specs.Prelude.{ℕ, ◌≡◌, false, List, [], ◌∷◌, ◌++◌, drop}
use Rattle.format.specs.File.{Ev}
use Rattle.format.specs.Version.{version}
use Rattle.format.specs.declared.version.Version.{Version}
use Rattle.game.specs.declared.frames.Frames.{Frames}
use Rattle.grammar.specs.Productions.{Replay, start_event, used_in}
use Rattle.columns.specs.Columns.{frames_read}
use Rattle.read_start.specs.Start.{start_in}
use Rattle.measure.specs.Game.{end_read, is_double, kept_read}
use Rattle.known.specs.Known.{is_known}

-- the last version whose files are read whole
abbrev pub last : Version
last = version 3 18 0

-- an event with bytes added behind its payload
abbrev pub longer : Ev → List ℕ → Ev
longer e more = record { code = e.code; payload = e.payload ++ more }

-- the second list is the first, with bytes added or none behind each payload, and with unknown events anywhere in it
pub data Extended : List Ev → List Ev → Type 0 where
  none : Extended [] []
  behind : {es ns : List Ev} (e : Ev) (more : List ℕ) → Extended es ns → Extended (e ∷ es) (longer e more ∷ ns)
  mixed : {es ns : List Ev} (e : Ev) → is_known e.code ≡ false → Extended es ns → Extended es (e ∷ ns)

-- a start block that says another version, with bytes added behind it
abbrev pub made_block : Version → List ℕ → List ℕ → List ℕ
made_block v block more = v.major ∷ v.minor ∷ v.patch ∷ (drop 3 block ++ more)

-- GameStart is first as before; nothing is mixed in before it
pub record Made (v : Version) (more : List ℕ) (es ns : List Ev) : Type 0 where
  pub block : List ℕ
  pub before : List Ev
  pub after : List Ev
  pub from : es ≡ start_event block ∷ before
  pub to : ns ≡ start_event (made_block v block more) ∷ after
  pub extended : Extended before after

-- a replay whose start block is made newer
abbrev pub made_replay : Version → List ℕ → Replay → Replay
made_replay v more r = record { block = made_block v r.block more; codes = r.codes; frames = r.frames; ends = r.ends }

abbrev pub with_version : Version → Frames → Frames
with_version v f = record { version = v; counts = f.counts; ports = f.ports; port_count = f.port_count }

-- what the second replay says at version v is what the first says at 3.18.0: frames, but for their version, all stores, the start, the end, and how many bytes are codes
pub record SaysAgain (v : Version) (r s : Replay) : Type 0 where
  pub frames : frames_read v s.frames ≡ with_version v (frames_read last r.frames)
  pub stores : kept_read v s ≡ kept_read last r
  pub start : start_in v s.block ≡ start_in last r.block
  pub end : end_read v s.ends ≡ end_read last r.ends
  pub double : is_double s.ends ≡ is_double r.ends
  pub used : used_in s.codes ≡ used_in r.codes

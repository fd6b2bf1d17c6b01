-- What a sound file is (2026-13): its events, and its tail. No reader is named here.
-- Assumes nothing.
use Rattle.std.specs.Prelude.{ℕ, ◌^◌, ◌≤◌, ◌<◌, ◌≡◌, Bool, true, false, List, [], ◌++◌, length}
use Rattle.format.specs.File.{Entry, table_bytes, events_bytes, file_of}
use Rattle.format.specs.Version.{accepted_of}
use Rattle.format.specs.declared.version.Version.{Version}
use Rattle.layout.specs.Payloads.{entries_of}
use Rattle.ending.specs.Tail.{tail_of}
use Rattle.map.specs.Map.{Map, body_of, Proper}
use Rattle.grammar.specs.Productions.{Replay, events_of, used_in}
use Rattle.grammar.specs.WellFormed.{anyhow, WellFormed}

-- the version's payload table, with codes listed or not
abbrev pub table_for : Version → Bool → Replay → List Entry
table_for v listed r = entries_of v (length r.block) listed (used_in r.codes)

-- ---- what 19 asks

-- an accepted version's table, the events of a well-formed replay with ports in any order, and their length before them, whatever stands behind them
pub record SoundEvents (file : List ℕ) : Type 0 where
  pub version : Version
  pub listed : Bool
  pub replay : Replay
  pub tail : List ℕ
  pub accepted : accepted_of version ≡ true
  pub well : WellFormed version anyhow replay
  pub unlisted : listed ≡ false → replay.codes ≡ []
  pub fits : length (table_bytes (table_for version listed replay) ++ events_bytes (events_of version replay)) < 2 ^ 32
  pub file_is : file ≡ file_of (table_for version listed replay) (events_of version replay) tail

-- ---- what 23 asks

-- a body that the writer of metadata can give (2026-05): a proper map's, of at most 65,535 bytes
pub record Metadata (body : List ℕ) : Type 0 where
  pub map : Map
  pub proper : Proper map
  pub small : length body ≤ 65535
  pub body_is : body ≡ body_of map

-- one brace; or the key, such a body, and two braces
pub record ProperTail (tail : List ℕ) : Type 0 where
  pub given : Bool
  pub body : List ℕ
  pub metadata : given ≡ true → Metadata body
  pub tail_is : tail ≡ tail_of given body

-- ---- a sound file

pub record Sound (file : List ℕ) : Type 0 where
  pub events : SoundEvents file
  pub proper : ProperTail events.tail

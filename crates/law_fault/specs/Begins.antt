-- What events begin: with more events they are those of a replay that `read` accepts.
-- Assumes nothing.
use Rattle.std.specs.Prelude.{ℕ, ◌≡◌, true, List, ◌++◌, length}
use Rattle.format.specs.File.{Ev}
use Rattle.format.specs.declared.version.Version.{Version}
use Rattle.grammar.specs.Productions.{Replay, events_of, used_in}
use Rattle.grammar.specs.Readable.{Readable}
use Rattle.read_outline.specs.Listed.{listed_right}

-- a replay of some version that can be read back, whose codes a table lists with such a span
pub record Continues (span : ℕ) (es : List Ev) : Type 0 where
  pub version : Version
  pub replay : Replay
  pub more : List Ev
  pub readable : Readable version replay
  pub listed : listed_right version span (length replay.codes) (used_in replay.codes) ≡ true
  pub events_are : es ++ more ≡ events_of version replay

-- an event is at fault: the reason is none of those that are told where all events came, nor 0
pub record AtEvent (reason : ℕ) : Type 0 where
  pub told : reason ≡ 0 → ⊥
  pub not_unfinished : reason ≡ 14 → ⊥
  pub not_cut : reason ≡ 15 → ⊥

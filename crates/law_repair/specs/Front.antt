-- The front of a replay: what is left of it where its events are cut.
-- Assumes nothing.
use Rattle.std.specs.Prelude.{ℕ, take}
use Rattle.grammar.specs.Productions.{Replay}

-- its first i frames and its first j ends
abbrev pub up_to : Replay → ℕ → ℕ → Replay
up_to r i j = record { block = r.block; codes = r.codes; frames = take i r.frames; ends = take j r.ends }

-- The reader's value.
-- Assumes nothing.
use Rattle.std.specs.Prelude.{ℕ, List}
use Rattle.std.specs.Borrow.{Bor}
use Rattle.replay.specs.declared.Replay.{Replay}

-- a lent file, kept beside a place in it
abbrev pub held_at : Bor (List ℕ) → ℕ → Replay
held_at bytes at = record { bytes = bytes; at = at }

-- What a reader is to find where a file is cut.
-- Assumes nothing.
use Rattle.std.specs.Prelude.{ℕ, ◌-◌, false, cond, List, [], ◌∷◌, map, leb, length}
use Rattle.wire.specs.Wire.{part, splice}
use Rattle.format.specs.File.{Ev, event_bytes}
use Rattle.de.specs.Walk.{run_of}
use Rattle.head.specs.declared.Step.{Step}
use Rattle.head.specs.declared.Step.TheVariants.{Event, Ends, Cut, Refused}
use Rattle.de.specs.declared.Walked.{Walked}
use Rattle.de.specs.declared.Walked.TheVariants as walked

-- the events that lie wholly in the first n bytes
unfoldable pub wholly : ℕ → List Ev → List Ev
wholly n [] = []
wholly n (e ∷ es) = cond (leb (length (event_bytes e)) n) (e ∷ wholly (n - length (event_bytes e)) es) []

-- the event that a step found, with the bytes that stand in the file
abbrev pub event_at : List ℕ → Step → Ev
event_at f (Event code at payload len next) = record { code = code; payload = part f payload len }
event_at f Ends = record { code = 0; payload = [] }
event_at f Cut = record { code = 0; payload = [] }
event_at f (Refused number offset) = record { code = 0; payload = [] }

-- the events that the reader finds in a file, in their order
unfoldable pub events_read : List ℕ → List Ev
events_read f = map (event_at f) (run_of f).seen

-- a file whose length was never filled in: its field, four bytes at 11, is zero
unfoldable pub zeroed : List ℕ → List ℕ
zeroed f = splice f 11 (0 ∷ 0 ∷ 0 ∷ 0 ∷ [])

-- the same answer of a walk, and cut
abbrev pub called_cut : Walked → Walked
called_cut (walked.Done events stray whole place) = walked.Done events stray false place
called_cut (walked.Refused number offset) = walked.Refused number offset

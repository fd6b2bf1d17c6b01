-- What a proof opens that computes a file and its events, named once: `unfolding opens_steps` unfolds all that stands on its line.
-- Assumes nothing.
use Prim.Native.Nat.{ℕ}
use Rattle.wire.specs.Wire.{be, part, more}
use Rattle.format.specs.Refusal.{lowest}
use Rattle.format.specs.File.{entries_bytes, table_bytes, events_bytes, file_of}
use Rattle.head.specs.Table.{starts_with, stop_of, all_present, entries_in, table_of, span_of, code_twice, table_missing, unsigned, untabled, head_refusal}
use Rattle.head.specs.Step.{event_in, step_in, step_of}
use Rattle.de.specs.Walk.{run}

-- a file's bytes, its head, and the steps over its events
unfoldable pub opens_steps : ℕ
unfolding file_of table_bytes entries_bytes events_bytes be part more lowest starts_with stop_of all_present entries_in table_of span_of code_twice table_missing unsigned untabled head_refusal event_in step_in step_of run
opens_steps = 0

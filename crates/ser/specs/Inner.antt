-- What stands in a file before the start block, and what stands after it.
-- Assumes nothing.
use Rattle.std.specs.Prelude.{ℕ, List, [], ◌∷◌, ◌++◌}
use Rattle.wire.specs.Wire.{be}
use Rattle.format.specs.Event.{code_of, signature}
use Rattle.format.specs.File.{table_bytes, events_bytes}
use Rattle.format.specs.Mark.{yes}
use Rattle.format.specs.declared.event.Event.TheVariants.{GameStart}
use Rattle.format.specs.declared.version.Version.{Version}
use Rattle.layout.specs.Payloads.{entries_of}
use Rattle.game.specs.Stores.{Lent}
use Rattle.codes.specs.Blocks.{code_events}
use Rattle.ending.specs.End.{end_events}
use Rattle.ending.specs.Tail.{tail_of}
use Rattle.events.specs.Events.{frames_events}
use Rattle.game.specs.declared.Game.{Game}

unfoldable pub front_bytes : Version → ℕ → ℕ → ℕ → ℕ → List ℕ
front_bytes v codesGiven actual block raw = signature ++ (be 4 raw ++ (table_bytes (entries_of v block (yes codesGiven) actual) ++ (code_of GameStart ∷ [])))

unfoldable pub rest_bytes : Game → Lent → List ℕ → List ℕ → List ℕ
rest_bytes g lent codes metadata =
    events_bytes (code_events (yes g.codes_given) codes g.actual_size)
    ++ (events_bytes (frames_events g.frames lent)
    ++ (events_bytes (end_events g.frames.version g.end g.double_end) ++ tail_of (yes g.metadata_given) metadata))

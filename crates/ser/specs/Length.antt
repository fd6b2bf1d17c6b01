-- The length field: the bytes from the payload table through the last event, by counts.
-- Assumes nothing.
use Rattle.std.specs.Prelude.{ℕ, ◌+◌, ◌*◌, cond, List, length}
use Rattle.format.specs.File.{table_bytes}
use Rattle.format.specs.Mark.{yes}
use Rattle.layout.specs.Payloads.{end_size, entries_of}
use Rattle.codes.specs.Blocks.{block_count}
use Rattle.ending.specs.Inner.{end_count}
use Rattle.events.specs.Length.{frames_length}
use Rattle.game.specs.declared.Game.{Game}

-- the table, the start block with its code, the code blocks, the frames, and the ends
unfoldable pub raw_length : Game → List ℕ → ℕ → ℕ
raw_length g presence block =
    length (table_bytes (entries_of g.frames.version block (yes g.codes_given) g.actual_size))
    + (1 + block
    + (cond (yes g.codes_given) (block_count g.actual_size * 517) 0
    + (frames_length g.frames presence + end_count g.end g.double_end * (1 + end_size g.frames.version))))

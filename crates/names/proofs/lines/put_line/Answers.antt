use Rattle.wire.proofs.Writers.{wrote_as, room_as}
use mathlib.Core.Path.{sym}
use Rattle.names.proofs.Texts.{line_part}
use Rattle.names.proofs.lines.put_line.Goals as goal

pub put_bytes-requires : goal.put_bytes-requires
put_bytes-requires c =
    room_as (sym (line_part (record { starts = c.line_start-from.ensures.0; ends = c.line_end-to.ensures.0 }))) c.requires

pub returns : goal.returns
returns c =
    wrote_as (line_part (record { starts = c.line_start-from.ensures.0; ends = c.line_end-to.ensures.0 })) c.put_bytes.ensures

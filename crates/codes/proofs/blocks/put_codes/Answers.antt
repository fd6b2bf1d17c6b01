use mathlib.Core.Path.{sym}
use Rattle.wire.proofs.Writers.{room_as, room_kept, wrote_as, wrote_kept, wrote_none}
use Rattle.codes.proofs.Laws.{code_bytes}
use Rattle.codes.proofs.blocks.put_codes.Goals as goal

pub put_blocks-requires : goal.put_blocks-requires
put_blocks-requires c = (c.requires.0 c.if-given.true, room_kept _ _ c.if-given.true (room_as (code_bytes _ _ _) c.requires.1))

pub returns-then-given : goal.returns-then-given
returns-then-given c = wrote_as (sym (code_bytes _ _ _)) (wrote_kept _ _ c.if-given.true c.put_blocks.ensures)

pub returns : goal.returns
returns c = wrote_as (sym (code_bytes _ _ _)) (wrote_none _ _ _ _ c.if-given.false)

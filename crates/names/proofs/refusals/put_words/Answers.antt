use mathlib.Core.Path.{sym, ◌∙◌}
use Rattle.wire.proofs.Writers.{wrote_as, room_as}
use Rattle.names.specs.Inner.{unknown}
use Rattle.names.specs.Bytes.{bytes}
use Rattle.names.proofs.Called.{joined}
use Rattle.names.proofs.Said.{others, others_line, said_unknown, said_known}
use Rattle.names.proofs.refusals.put_words.Goals as goal

pub put_line-requires : goal.put_line-requires
unfolding joined others unknown bytes
put_line-requires c = room_as (sym (others_line ∙ said_unknown _ c.if-last-number.true)) c.requires

pub returns-then-last-number : goal.returns-then-last-number
unfolding joined others unknown bytes
returns-then-last-number c = wrote_as (others_line ∙ said_unknown _ c.if-last-number.true) c.put_line.ensures

pub put_line-requires-2 : goal.put_line-requires-2
put_line-requires-2 c = room_as (sym (said_known _ c.wide.ensures.0 c.if-last-number.false)) c.requires

pub returns : goal.returns
returns c = wrote_as (said_known _ c.wide.ensures.0 c.if-last-number.false) c.put_line-2.ensures

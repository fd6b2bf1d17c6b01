use mathlib.Core.Path.{sym, ◌∙◌}
use Rattle.wire.proofs.Writers.{room_kept, wrote_kept, wrote_none}
use Rattle.ending.proofs.end.put_initiator.Goals as goal

pub put_u8-requires : goal.put_u8-requires
put_u8-requires c = room_kept _ _ (sym c.has_initiator.ensures ∙ c.if-has_initiator.true) c.requires

pub returns-then-has_initiator : goal.returns-then-has_initiator
returns-then-has_initiator c = wrote_kept _ _ (sym c.has_initiator.ensures ∙ c.if-has_initiator.true) c.put_u8.ensures

pub returns : goal.returns
returns c = wrote_none _ _ _ _ (sym c.has_initiator.ensures ∙ c.if-has_initiator.false)

use mathlib.Core.Path.{sym, ◌∙◌}
use Rattle.wire.proofs.Writers.{room_kept, wrote_kept, wrote_none}
use Rattle.ending.proofs.end.put_placements.Goals as goal

pub put_four-requires : goal.put_four-requires
put_four-requires c = room_kept _ _ (sym c.has_placements.ensures ∙ c.if-has_placements.true) c.requires

pub returns-then-has_placements : goal.returns-then-has_placements
returns-then-has_placements c = wrote_kept _ _ (sym c.has_placements.ensures ∙ c.if-has_placements.true) c.put_four.ensures

pub returns : goal.returns
returns c = wrote_none _ _ _ _ (sym c.has_placements.ensures ∙ c.if-has_placements.false)

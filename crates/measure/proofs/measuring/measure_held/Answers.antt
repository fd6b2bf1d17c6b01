use borrow.Author.Rules.{rules}
use Rattle.measure.proofs.Outcomes.{first_room, held_measured}
use Rattle.measure.proofs.measuring.measure_held.Goals as goal

pub returns : goal.returns
returns c =
    held_measured _ _ _ _ _ c.requires (c.measured.ensures c.requires)

pub gecko_span-gecko-requires : goal.gecko_span-gecko-requires
gecko_span-gecko-requires c = first_room _ _ _ _ c.requires

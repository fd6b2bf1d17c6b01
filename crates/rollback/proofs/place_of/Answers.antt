-- Assumes nothing.
use mathlib.Core.Path.{ap, ◌∙◌}
use Rattle.format.specs.FrameId.{place_of}
use Rattle.rollback.proofs.place_of.Goals as goal

pub returns : goal.returns
returns c = (c.place.ensures.0 ∙ ap place_of c.of_cell.ensures, c.place.ensures.1)

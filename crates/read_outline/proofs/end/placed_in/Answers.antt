use Rattle.read_outline.specs.End.{mark_by, placed_in}
use Rattle.read_outline.proofs.end.placed_in.Goals as goal

pub returns : goal.returns
unfolding placed_in
returns c = c.of_four.ensures mark_by (λ x y e. search e)

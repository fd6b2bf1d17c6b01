use Rattle.read_outline.specs.End.{value_by, placements_in}
use Rattle.read_outline.proofs.end.placements_in.Goals as goal

pub returns : goal.returns
unfolding placements_in
returns c = c.of_four.ensures value_by (λ x y e. search e)

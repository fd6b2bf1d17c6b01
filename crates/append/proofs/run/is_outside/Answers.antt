use mathlib.Core.Path.{refl}
use Rattle.append.specs.Run.{outside_frames}
use Rattle.append.proofs.run.is_outside.Goals as goal

pub returns : goal.returns
unfolding outside_frames
returns c = refl

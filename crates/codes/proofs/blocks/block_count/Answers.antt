use native.Mathlib.Omega.{arith}
use mathlib.Core.Path.{refl}
use Rattle.codes.specs.Blocks.{block_count}
use Rattle.codes.proofs.blocks.block_count.Goals as goal

pub returns : goal.returns
unfolding block_count
returns c = (refl, omega arith)

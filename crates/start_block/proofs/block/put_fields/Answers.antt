use native.Mathlib.Omega.{arith}
use Rattle.start.specs.Block.{fields}
use Rattle.start.proofs.Lengths.{at_least}
use Rattle.patch.proofs.Patches.{patched_then}
use Rattle.start.proofs.Refusals.{good_start}
use Rattle.start_block.proofs.block.put_fields.Goals as goal

pub put_game-requires : goal.put_game-requires
put_game-requires c = omega (arith, at_least c.args.v)

pub put_seats-requires : goal.put_seats-requires
put_seats-requires c = (omega arith, (good_start _ _ c.requires.1).0)

pub put_match-requires : goal.put_match-requires
put_match-requires c =
    let good = good_start _ _ c.requires.1 in
    (omega arith, good.1, good.2)

pub returns : goal.returns
unfolding fields
returns c = search patched_then

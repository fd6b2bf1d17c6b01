use native.Mathlib.Omega.{arith}
use Rattle.patch.specs.Inner.{number_patches, Fit}
use Rattle.patch.proofs.Patches.{patched_then, patched_one}
use Rattle.start.specs.Block.{game_fields}
use Rattle.start_block.proofs.block.put_game.Goals as goal

pub put_numbers-requires : goal.put_numbers-requires
unfolding Fit
put_numbers-requires c = omega arith

pub returns : goal.returns
unfolding game_fields number_patches
returns c =
    let flags = c in
    rw (← flags.flag_of-bombs.ensures, ← flags.flag_of-teams.ensures)
    (patched_then c.put_numbers.ensures
    (patched_then (patched_one c.put_bytes.ensures) (patched_one c.put_bytes-2.ensures)))

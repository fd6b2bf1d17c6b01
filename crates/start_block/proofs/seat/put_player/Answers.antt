use native.Mathlib.Omega.{arith}
use Rattle.wire.proofs.Laws.{byte_if}
use Rattle.patch.specs.Inner.{number_patches, Fit}
use Rattle.start.specs.Block.{player_fields}
use Rattle.start_block.proofs.seat.put_player.Goals as goal

pub overflow_cast-values-10 : goal.overflow_cast-values-10
overflow_cast-values-10 c = omega (arith, c.struct_known-11-1.given)

pub overflow_cast-values-11 : goal.overflow_cast-values-11
overflow_cast-values-11 c = omega (arith, c.struct_known-12-1.given)

pub put_numbers-requires : goal.put_numbers-requires
unfolding Fit
put_numbers-requires c =
    let team = c in
    omega (arith, team.width_if-team.ensures.1, c.width_if-level.ensures.1, team.requires)

pub returns : goal.returns
unfolding player_fields number_patches
returns c =
    let team = c in
    let p = team.args.p in
    rw (
      byte_if _ p.team.shade team.width_if-team.ensures.0,
      byte_if _ p.team.color team.width_if-team.ensures.0,
      byte_if _ p.cpu_level.value c.width_if-level.ensures.0,
    ) c.put_numbers.ensures

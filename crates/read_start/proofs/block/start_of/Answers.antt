use native.Mathlib.Omega.{arith}
use borrow.Author.Rules.{rules}
use lib.ListN.{get_or}
use Rattle.start.proofs.Lengths.{long_enough}
use Rattle.read_start.specs.Start.{start_in}
use Rattle.read_start.proofs.block.start_of.Goals as goal

pub flag_if-requires : goal.flag_if-requires
flag_if-requires c =
    λ on. omega (arith, c.requires, long_enough c.args.v 6 on)

pub flag_if-requires-2 : goal.flag_if-requires-2
flag_if-requires-2 c =
    λ on. omega (arith, c.requires, long_enough c.args.v 5 on)

pub byte_if-requires : goal.byte_if-requires
byte_if-requires c =
    λ on. omega (arith, c.requires, long_enough c.args.v 1 on)

pub match_in-requires : goal.match_in-requires
match_in-requires c = c.requires.1

pub returns : goal.returns
unfolding start_in
returns c =
    let block = c.args.block.now in
    λ i. record {
      bitfield = c.four_at.ensures i;
      is_raining_bombs = c.flag_at.ensures i;
      is_teams = c.flag_at-2.ensures i;
      item_spawn_frequency = get_or block 15 0;
      self_destruct_score = get_or block 16 0;
      stage = c.half_at.ensures i;
      timer = c.get_be.ensures i;
      item_spawn_bitfield = c.five_at.ensures i;
      damage_ratio = c.get_be-2.ensures i;
      seats = c.seats_in.ensures i;
      random_seed = c.get_be-3.ensures i;
      is_pal = c.flag_if.ensures i;
      is_frozen_ps = c.flag_if-2.ensures i;
      scene = c.scene_in.ensures i;
      language = c.byte_if.ensures i;
      match_info = c.match_in.ensures i;
    }

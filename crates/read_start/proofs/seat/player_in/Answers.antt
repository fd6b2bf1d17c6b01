use mathlib.Core.Path.{◌≡◌, sym}
use native.Mathlib.Omega.{arith}
use Prim.Native.Nat.{◌+◌, ◌*◌}
use native.Mathlib.Nat.{add-zero}
use borrow.Author.Rules.{rules}
use lib.ListN.{get_or}
use Rattle.start.proofs.Lengths.{long_enough}
use Rattle.read_start.proofs.seat.player_in.Goals as goal

pub text_if-requires : goal.text_if-requires
text_if-requires c =
    (omega arith, λ on. omega (arith, c.requires, long_enough c.args.v 7 on))

pub netplay_in-requires : goal.netplay_in-requires
netplay_in-requires c =
    (c.requires.0, c.requires.2)

pub returns : goal.returns
returns c =
    let a = c.args in
    let block = a.block.now in
    let at = 100 + 36 * a.n in
    let start : at + 0 ≡ at = add-zero at in
    λ i. record {
      given = 1;
      character = get_or block (sym start i) 0;
      kind = get_or block (at + 1) 0;
      stocks = get_or block (at + 2) 0;
      costume = get_or block (at + 3) 0;
      team = c.team_in.ensures i;
      handicap = get_or block (at + 8) 0;
      bitfield = get_or block (at + 12) 0;
      cpu_level = c.level_in.ensures i;
      damage_start = c.half_at.ensures i;
      damage_spawn = c.half_at-2.ensures i;
      offense_ratio = c.get_be.ensures i;
      defense_ratio = c.get_be-2.ensures i;
      model_scale = c.get_be-3.ensures i;
      ucf = c.ucf_in.ensures i;
      name_tag_given = c.mark_of.ensures i;
      name_tag = c.text_if.ensures i;
      netplay = c.netplay_in.ensures i;
    }

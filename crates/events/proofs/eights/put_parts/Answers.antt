-- `events::eights::put_parts` meets its contract: part after part.
use native.Mathlib.Omega.{arith}
use Rattle.game.specs.Stores.{Lent, cells, offsets, lent}
use Rattle.game.specs.Held.{lent_in}
use Rattle.events.proofs.EightLaws.{room_1, room_2, room_3, back_3, room_4, room_5, eight_sown}
use Rattle.events.proofs.eights.put_parts.Goals as goal
use Rattle.events.proofs.eights.put_parts.Goals.{Start}

-- all that is lent
abbrev all : (c : Start) → Lent
all c =
    let a = c.args in
    lent_in a.lent.now

pub put_ones-p-requires : goal.put_ones-p-requires
put_ones-p-requires c =
    let a = c.args in
    let g = c.requires.0.start in
    (g.laid, omega (arith, g.rows, c.requires.1), c.requires.1, omega (arith, c.requires.3.few), room_1 a.shapes a.s (all (goal.at.put_ones-p-requires c).Start) a.i a.places.now c.requires.4)

pub put_teams-p-requires : goal.put_teams-p-requires
put_teams-p-requires c =
    let a = c.args in
    let g = c.requires.0.pre in
    (g.laid, c.requires.0.seats, omega (arith, g.rows, c.requires.1), omega (arith, g.rows, c.requires.0.frames), c.requires.1, omega (arith, c.requires.3.few), c.requires.2, room_2 a.shapes a.s (all (goal.at.put_teams-p-requires c).Start) a.i a.places.now c.requires.4 c.put_ones-p.result c.put_ones-p.ensures)

pub put_middles-requires : goal.put_middles-requires
put_middles-requires c =
    let a = c.args in
    let g = c.requires.0 in (
      (g.fod, g.whispy, g.stadium, g.item),
      c.requires.1,
      omega (arith, c.requires.3.few),
      room_3 a.shapes a.s (all (goal.at.put_middles-requires c).Start) a.i a.places.now c.requires.4 c.put_ones-p.result c.put_ones-p.ensures c.put_teams-p.result c.put_teams-p.ensures,
      back_3 a.shapes a.s (all (goal.at.put_middles-requires c).Start)
          a.i a.places.now c.requires.4 c.put_ones-p.result c.put_ones-p.ensures c.put_teams-p.result c.put_teams-p.ensures c.requires.3,
      c.requires.5,
    )

pub put_teams-p-requires-2 : goal.put_teams-p-requires-2
put_teams-p-requires-2 c =
    let a = c.args in
    let g = c.requires.0.post in (
      g.laid,
      c.requires.0.seats,
      omega (arith, g.rows, c.requires.1),
      omega (arith, g.rows, c.requires.0.frames),
      c.requires.1,
      omega (arith, c.requires.3.few),
      c.requires.2,
      room_4 a.shapes a.s (all (goal.at.put_teams-p-requires-2 c).Start) a.i a.places.now c.requires.4 c.put_ones-p.result c.put_ones-p.ensures
          c.put_teams-p.result c.put_teams-p.ensures c.put_middles.ensures,
    )

pub put_ones-requires : goal.put_ones-requires
put_ones-requires c =
    let a = c.args in
    let g = c.requires.0.end in (
      g.laid,
      omega (arith, g.rows, c.requires.1),
      c.requires.1,
      omega (arith, c.requires.3.few),
      room_5 a.shapes a.s (all (goal.at.put_ones-requires c).Start) a.i a.places.now c.requires.4 c.put_ones-p.result c.put_ones-p.ensures c.put_teams-p.result c.put_teams-p.ensures c.put_middles.ensures
          c.put_teams-p-2.result c.put_teams-p-2.ensures,
    )

pub shape_of-out : goal.shape_of-out
shape_of-out c =
    omega (arith, c.put_ones-p.auto.out, c.put_teams-p.auto.out, c.put_middles.auto.out, c.put_teams-p-2.auto.out, c.put_ones.auto.out)

pub returns : goal.returns
returns c =
    let a = c.args in
    eight_sown a.shapes a.s (all (goal.at.returns c).Start) a.i a.places.now c.requires.4 c.put_ones-p.result c.put_ones-p.ensures c.put_teams-p.result c.put_teams-p.ensures c.put_middles.ensures c.put_teams-p-2.result c.put_teams-p-2.ensures c.put_ones.ensures

use native.Mathlib.Omega.{arith}
use Rattle.events.proofs.Laws.{start_room, pre_room, middle_room, post_room, end_room, frame_wrote}
use Rattle.events.proofs.frame.put_frame.Goals as goal

pub put_one-p-requires : goal.put_one-p-requires
put_one-p-requires c =
    let g = c.requires.0.start in
    (g.laid, omega (arith, g.rows, c.requires.1), start_room _ _ _ _ c.requires.2)

pub put_players-p-requires : goal.put_players-p-requires
put_players-p-requires c =
    let g = c.requires.0.pre in
    (g.laid, c.requires.0.seats, omega (arith, g.rows, c.requires.1), omega (arith, g.rows, c.requires.0.frames), pre_room _ _ _ _ c.requires.2 c.put_one-p.ensures)

pub put_between-p-requires : goal.put_between-p-requires
put_between-p-requires c =
    let g = c.requires.0 in
    ((g.fod, g.whispy, g.stadium, g.item), c.requires.1, middle_room _ _ _ _ c.requires.2 c.put_one-p.ensures c.put_players-p.ensures)

pub put_players-p-requires-2 : goal.put_players-p-requires-2
put_players-p-requires-2 c =
    let g = c.requires.0.post in
    let room = post_room _ _ _ _ c.requires.2 c.put_one-p.ensures c.put_players-p.ensures c.put_between-p.ensures in
    (g.laid, c.requires.0.seats, omega (arith, g.rows, c.requires.1), omega (arith, g.rows, c.requires.0.frames), room)

pub put_one-requires : goal.put_one-requires
put_one-requires c =
    let g = c.requires.0.end in
    (g.laid, omega (arith, g.rows, c.requires.1), end_room _ _ _ _ c.requires.2 c.put_one-p.ensures c.put_players-p.ensures c.put_between-p.ensures c.put_players-p-2.ensures)

pub shape_of-out : goal.shape_of-out
shape_of-out c =
    omega (arith, c.put_one-p.auto.out, c.put_players-p.auto.out, c.put_between-p.auto.out, c.put_players-p-2.auto.out, c.put_one.auto.out)

pub returns : goal.returns
returns c =
    frame_wrote _ _ _ _ c.put_one-p.ensures c.put_players-p.ensures c.put_between-p.ensures c.put_players-p-2.ensures c.put_one.ensures

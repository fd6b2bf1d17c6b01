use native.Mathlib.Omega.{arith}
use Rattle.wire.proofs.Writers.{left_start, range_room, range_step, range_done}
use Rattle.events.proofs.AlikeLaws.{eights_room, eights_step}
use Rattle.events.proofs.frame.put_run.Goals as goal

pub is_whole-whole-requires : goal.is_whole-whole-requires
is_whole-whole-requires c = c.requires.0.seats

pub loop-i-init : goal.loop-i-init
loop-i-init c = (c.requires.1, left_start)

pub is_team-requires : goal.is_team-requires
is_team-requires c =
    (c.is_whole-whole.ensures, c.requires.0.seats, c.loop-i.invariant.0, omega (arith, c.requires.2, c.requires.0.frames))

pub put_eight-p-requires : goal.put_eight-p-requires
put_eight-p-requires c =
    let l = c.loop-i in
    let team = c.is_team.ensures c.if-is_team.true in
    (c.requires.0, omega (arith, team.0, c.requires.2), team.1, eights_room _ l.i _ team.0 l.invariant.1 c.requires.3)

pub overflow_add-i : goal.overflow_add-i
overflow_add-i c =
    omega (arith, c.loop-i-test.true, c.requires.0.frames, c.requires.2)

pub loop-i-preserved-then-is_team : goal.loop-i-preserved-then-is_team
loop-i-preserved-then-is_team c =
    let l = c.loop-i in
    let few = (c.is_team.ensures c.if-is_team.true).0 in
    (few, eights_step _ l.i _ few l.invariant.1 c.put_eight-p.ensures)

pub put_frame-p-requires : goal.put_frame-p-requires
put_frame-p-requires c =
    let l = c.loop-i in
    let t = c.loop-i-test.true in
    (c.requires.0, omega (arith, t, c.requires.2), range_room _ l.i _ l.invariant.1 t c.requires.3)

pub overflow_add-i-else-is_team : goal.overflow_add-i-else-is_team
overflow_add-i-else-is_team c =
    omega (arith, c.loop-i-test.true, c.requires.0.frames, c.requires.2)

pub loop-i-preserved : goal.loop-i-preserved
loop-i-preserved c =
    let l = c.loop-i in
    let t = c.loop-i-test.true in
    (omega (arith, t), range_step _ l.i _ l.invariant.1 t c.put_frame-p.ensures)

pub returns : goal.returns
returns c = range_done _ _ _ c.loop-i.invariant.1 c.loop-i-test.false

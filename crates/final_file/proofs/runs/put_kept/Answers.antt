use mathlib.Core.Path.{sym}
use Prim.Native.Nat.{◌-◌, ◌≤◌}
use native.Mathlib.Omega.{arith}
use lib.ListN.{length}
use Rattle.wire.proofs.Writers.{Left, room_as, wrote_as}
use Rattle.game.specs.Stores.{Lent, cells, offsets, lent}
use Rattle.events.proofs.Laws.{run_is, supplied_of}
use Rattle.final_file.specs.Inner.{kept_bytes}
use Rattle.game.specs.Held.{lent_in}
use Rattle.final_file.proofs.Splits.{rest, start, run_room, run_step, goes_on, done}
use Rattle.final_file.proofs.runs.put_kept.Goals as goal
use Rattle.final_file.proofs.runs.put_kept.Goals.{Start}

abbrev stores : (s : Start) → Lent
stores s =
    lent_in s.args.lent.now

pub shapes_of-shapes-requires : goal.shapes_of-shapes-requires
shapes_of-shapes-requires c = c.requires.0.modest

pub loop-i-init : goal.loop-i-init
loop-i-init c = (omega arith, start _ _ _)

pub put_run-p-requires : goal.put_run-p-requires
put_run-p-requires c =
    let l = c.loop-i in
    let m = c.shapes_of-shapes.ensures in
    let all = stores (goal.at.put_run-p-requires c).Start in
    let lost = c.next_lost-b.ensures in
    let room = run_room _ c.args.f all l.invariant.1 c.next_kept-a.ensures lost c.requires.3 in
    (supplied_of _ _ all _ m c.requires.1 c.requires.0, lost.low, omega (arith, lost.high, c.requires.2, c.requires.0.ids), room_as (run_is _ _ all _ m c.requires.1 _ _) room)

pub loop-i-smaller : goal.loop-i-smaller
loop-i-smaller c =
    let t = c.loop-i-test.true in
    let further = goes_on c.args.mask.now c.args.f (stores (goal.at.loop-i-smaller c).Start) c.next_kept-a.ensures c.next_lost-b.ensures (omega (arith, t, c.requires.2)) in
    omega (arith, further, t, c.requires.2)

pub loop-i-preserved : goal.loop-i-preserved
loop-i-preserved c =
    let l = c.loop-i in
    let all = stores (goal.at.loop-i-preserved c).Start in
    let wrote = wrote_as (sym (run_is _ _ all _ c.shapes_of-shapes.ensures c.requires.1 _ _)) c.put_run-p.ensures in
    let lost = c.next_lost-b.ensures in
    (lost.high, run_step _ c.args.f all l.invariant.1 c.next_kept-a.ensures lost wrote)

pub returns : goal.returns
returns c =
    let l = c.loop-i in
    done _ c.args.f (stores (goal.at.returns c).Start) l.i (omega (arith, c.loop-i-test.false, c.requires.2)) l.invariant.1

pub next_kept-a-requires : goal.next_kept-a-requires
next_kept-a-requires c = c.loop-i.invariant.0

pub next_lost-b-requires : goal.next_lost-b-requires
next_lost-b-requires c = c.next_kept-a.ensures.high

pub shape_of-out : goal.shape_of-out
shape_of-out c = c.loop-i.invariant.1.same

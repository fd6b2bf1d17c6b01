use mathlib.Core.Path.{sym}
use native.Mathlib.Omega.{arith}
use Rattle.wire.proofs.Writers.{room_as, wrote_as}
use Rattle.frames.proofs.Accepted.{accepted}
use Rattle.game.specs.Stores.{Lent}
use Rattle.events.proofs.Laws.{run_is, supplied_of}
use Rattle.append.specs.Run.{run_events}
use Rattle.game.specs.Held.{lent_in}
use Rattle.append.proofs.Lengths.{framed}
use Rattle.append.proofs.Outcomes.{in_order_lem, short_refused, run_written, short_as, run_room}
use Rattle.append.proofs.place.put_run.Goals as goal
use Rattle.append.proofs.place.put_run.Goals.{Start}

abbrev stores : (s : Start) → Lent
stores s =
    lent_in s.args.lent.now

pub slots_of-s-requires : goal.slots_of-s-requires
slots_of-s-requires c = let p = accepted _ _ _ _ c.requires.0 in (p.modest, p.presence.even)

pub shapes_of-shapes-requires : goal.shapes_of-shapes-requires
shapes_of-shapes-requires c = (accepted _ _ _ _ c.requires.0).modest

pub run_len-len-requires : goal.run_len-len-requires
run_len-len-requires c =
    let p = accepted _ _ _ _ c.requires.0 in
    let (order, within) = in_order_lem _ _ _ c.requires.1 in
    ((p.modest, c.slots_of-s.ensures, p.presence.right, c.shapes_of-shapes.ensures), (p.items, p.fods, p.whispys, p.stadiums), order, within)

pub returns-then-is_short : goal.returns-then-is_short
returns-then-is_short c =
    short_refused _ _ _ _ _ _ c.requires.0 c.requires.1 (short_as _ _ _ _ c.requires.0 c.requires.1 _ _ c.run_len-len.ensures c.is_short.ensures c.if-is_short.true)

pub put_run-end-requires : goal.put_run-end-requires
unfolding run_events
put_run-end-requires c =
    let all = stores (goal.at.put_run-end-requires c).Start in
    let (order, within) = in_order_lem _ _ _ c.requires.1 in
    let whole = framed (accepted _ _ _ _ c.requires.0) in
    let m = c.shapes_of-shapes.ensures in
    let q = c.slots_of-s.ensures in
    let room = run_room (short_as _ all _ _ c.requires.0 c.requires.1 _ _ c.run_len-len.ensures c.is_short.ensures c.if-is_short.false) in
    (supplied_of _ _ all _ m q whole, order, omega (arith, within, whole.ids), room_as (run_is _ _ all _ m q _ _) room)

pub returns : goal.returns
unfolding run_events
returns c =
    let all = stores (goal.at.returns c).Start in
    let fits = short_as _ all _ _ c.requires.0 c.requires.1 _ _ c.run_len-len.ensures c.is_short.ensures c.if-is_short.false in
    let is = run_is _ _ all _ c.shapes_of-shapes.ensures c.slots_of-s.ensures _ _ in
    run_written _ all _ _ _ _ c.requires.0 c.requires.1 fits (wrote_as (sym is) c.put_run-end.ensures)

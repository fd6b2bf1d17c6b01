-- `events::frame::put_frames` meets its contract: records by shapes are the definition's events.
use mathlib.Core.Path.{sym}
use native.Mathlib.Omega.{arith}
use Rattle.wire.proofs.Writers.{room_as, wrote_as}
use Rattle.game.specs.Stores.{Lent, cells, offsets, lent}
use Rattle.game.specs.Held.{lent_in}
use Rattle.events.proofs.Laws.{run_is, supplied_of}
use Rattle.events.proofs.frame.put_frames.Goals as goal
use Rattle.events.proofs.frame.put_frames.Goals.{Start}

abbrev stores : (s : Start) → Lent
stores s =
    lent_in s.args.lent.now

pub shapes_of-shapes-requires : goal.shapes_of-shapes-requires
shapes_of-shapes-requires c = c.requires.0.modest

pub put_run-requires : goal.put_run-requires
put_run-requires c =
    let m = c.shapes_of-shapes.ensures in
    let all = stores (goal.at.put_run-requires c).Start in
    (supplied_of _ _ all _ m c.requires.1 c.requires.0, c.requires.2, omega (arith, c.requires.3, c.requires.0.ids), room_as (run_is _ _ all _ m c.requires.1 _ _) c.requires.4)

pub returns : goal.returns
returns c =
    wrote_as (sym (run_is _ _ (stores (goal.at.returns c).Start) _ c.shapes_of-shapes.ensures c.requires.1 _ _)) c.put_run.ensures

-- `places::table::lay_out` meets its contract: the frames before t have their places.
use Rattle.game.specs.Held.{offsets_in}
use Rattle.places.proofs.Laws.{Laying}
use Rattle.places.proofs.table.lay_out.Given as goal

abbrev pub invariant-loop-t : goal.invariant-loop-t
invariant-loop-t l =
    Laying l.z (offsets_in l.offsets) l.i l.at l.places l.p l.t

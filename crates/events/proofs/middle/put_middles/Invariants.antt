use Prim.Native.Nat.{◌≤◌}
use Rattle.game.specs.Held.{offsets_in}
use Rattle.spread.specs.Inner.{place_at, Strewn}
use Rattle.events.specs.Eights.{middle_on}
use Rattle.events.proofs.middle.put_middles.Given as goal

abbrev pub invariant-loop-t : goal.invariant-loop-t
invariant-loop-t l =
    (l.t ≤ 8) × Strewn l.initial.out l.out (place_at l.places 0 l.off) (middle_on l.shapes l.lent.cells.items.now l.lent.cells.fods.now l.lent.cells.whispys.now l.lent.cells.stadiums.now (offsets_in l.lent.offsets) l.lent.cells.ids.now l.i) l.t

-- `events::eights::put_teams` meets its contract: what is left to write are the rows of the slots from k on.
use Prim.Native.Nat.{◌≤◌}
use Rattle.spread.proofs.Laws.{Rest}
use Rattle.spread.specs.Inner.{place_at}
use Rattle.events.specs.Eights.{players_on, players_from}
use Rattle.events.proofs.eights.put_teams.Given as goal

abbrev pub invariant-loop-k : goal.invariant-loop-k
invariant-loop-k l =
    (l.k ≤ l.s.count)
    × Rest l.initial.out (place_at l.places l.x l.off) (players_on l.m l.s l.cells l.presence l.ids l.i) l.out (place_at l.places l.x l.p) (players_from l.m l.s l.cells l.presence l.ids l.i l.k)

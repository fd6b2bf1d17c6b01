-- `events::rows::put_players` meets its contract: what is left to write are the rows of the slots from k on.
use Prim.Native.Nat.{◌-◌, ◌≤◌}
use Rattle.wire.specs.Wire.{ranged}
use Rattle.wire.proofs.Writers.{Left}
use Rattle.events.specs.Inner.{slot_bytes, slots_bytes}
use Rattle.events.proofs.rows.put_players.Given as goal

abbrev pub invariant-loop-k : goal.invariant-loop-k
invariant-loop-k l =
    (l.k ≤ l.s.count)
    × Left l.initial.out l.at (slots_bytes l.m l.s l.cells l.presence l.id l.i) l.out l.p (ranged (slot_bytes l.m l.s l.cells l.presence l.id l.i) l.k (l.s.count - l.k))

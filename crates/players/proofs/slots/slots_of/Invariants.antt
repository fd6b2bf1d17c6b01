-- The invariant: the slots held, and those of the port columns to come, are all.
use Prim.Native.Nat.{◌*◌, ◌≤◌}
use Rattle.players.specs.Inner.{slots_in, Eight}
use Rattle.players.proofs.SlotLaws.{Gathered}
use Rattle.players.proofs.slots.slots_of.Given as goal

abbrev pub invariant-loop-k : goal.invariant-loop-k
invariant-loop-k l =
    (l.k ≤ l.columns) × (l.s.count ≤ 2 * l.k) × (l.at ≤ 262144 * l.k) × Eight l.s × Gathered l.f l.k l.at (slots_in l.s)

-- The invariant: the slots of the port columns passed are counted.
use mathlib.Core.Path.{◌≡◌}
use Prim.Native.Nat.{◌*◌, ◌≤◌}
use Rattle.players.specs.Presence.{slots_before}
use Rattle.players.proofs.slots.slots_before.Given as goal

abbrev pub invariant-loop-j : goal.invariant-loop-j
invariant-loop-j l = (l.j ≤ l.k) × (l.n ≤ 2 * l.j) × (l.n ≡ slots_before l.f l.j)

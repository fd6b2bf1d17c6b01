-- The invariant: the players counted, and those of the slots to come, are all.
use mathlib.Core.Path.{◌≡◌}
use Prim.Native.Nat.{◌+◌, ◌-◌, ◌≤◌}
use lib.ListN.{drop}
use Rattle.players.specs.Inner.{slots_in}
use Rattle.events.specs.Length.{players_over}
use Rattle.append.proofs.length.players_between.Given as goal

abbrev pub invariant-loop-k : goal.invariant-loop-k
invariant-loop-k l =
    (l.k ≤ l.s.count) × (l.s.count ≤ 8) × (l.n + players_over l.presence (drop l.k (slots_in l.s)) l.a (l.b - l.a) ≡ players_over l.presence (slots_in l.s) l.a (l.b - l.a))

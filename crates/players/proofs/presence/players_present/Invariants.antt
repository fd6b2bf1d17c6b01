-- The invariant: the players counted, and those of the slots to come, are all.
use mathlib.Core.Path.{◌≡◌}
use Prim.Native.Nat.{◌+◌, ◌≤◌}
use lib.ListN.{drop}
use Rattle.players.specs.Inner.{slots_in}
use Rattle.players.specs.Presence.{players_present}
use Rattle.players.proofs.presence.players_present.Given as goal

abbrev pub invariant-loop-k : goal.invariant-loop-k
invariant-loop-k l =
    (l.k ≤ l.s.count) × (l.s.count ≤ 8) × (l.n + players_present l.presence (drop l.k (slots_in l.s)) l.frames ≡ players_present l.presence (slots_in l.s) l.frames)

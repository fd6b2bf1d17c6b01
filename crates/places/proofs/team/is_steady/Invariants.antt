use Prim.Native.Nat.{ℕ, ◌+◌, ◌≤◌, ◌<◌}
use mathlib.Core.Path.{◌≡◌}
use Rattle.players.specs.Presence.{marked}
use Rattle.places.proofs.team.is_steady.Given as goal

abbrev pub invariant-loop-t : goal.invariant-loop-t
invariant-loop-t l = (l.t ≤ 8) × ((u : ℕ) → u < l.t → marked l.presence l.at l.len (l.i + u) ≡ marked l.presence l.at l.len l.i)

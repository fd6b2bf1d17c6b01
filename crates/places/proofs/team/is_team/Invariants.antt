use Prim.Native.Nat.{ℕ, ◌≤◌, ◌<◌}
use lib.ListN.{get_or}
use Rattle.places.specs.Inner.{Steady}
use Rattle.places.proofs.team.is_team.Given as goal

abbrev pub invariant-loop-k : goal.invariant-loop-k
invariant-loop-k l = (l.k ≤ l.s.count) × ((u : ℕ) → u < l.k → Steady l.presence (get_or l.s.at u 0) (get_or l.s.len u 0) l.i)

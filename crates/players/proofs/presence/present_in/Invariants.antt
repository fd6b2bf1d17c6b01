-- The invariant: n counts the frames of the bytes passed.
use mathlib.Core.Path.{◌≡◌}
use Prim.Native.Nat.{◌*◌, ◌≤◌}
use Rattle.players.specs.Presence.{marked, count_from}
use Rattle.players.proofs.presence.present_in.Given as goal

abbrev pub invariant-loop-i : goal.invariant-loop-i
invariant-loop-i l = (l.i ≤ l.full) × (l.frames ≤ 8 * l.len) × (l.n ≡ count_from (marked l.presence l.at l.len) 0 (8 * l.i))

use mathlib.Core.Path.{◌≡◌}
use Prim.Native.Nat.{◌+◌, ◌*◌, ◌≤◌}
use Rattle.read_event.proofs.Likeness.{SameTo}
use Rattle.read_event.proofs.alike.is_repeated.Given as goal

abbrev pub invariant-loop : goal.invariant-loop
invariant-loop l = (l.counter ≤ 7) × (l.p ≡ l.at + l.counter * l.step) × SameTo l.file l.step l.at (l.counter + 1)

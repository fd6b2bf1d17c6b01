use mathlib.Core.Path.{◌≡◌}
use Prim.Native.Nat.{◌+◌, ◌*◌, ◌≤◌}
use Rattle.read_event.specs.Alike.{steps_put}
use Rattle.read_event.proofs.alike.put_steps.Given as goal

abbrev pub invariant-loop-t : goal.invariant-loop-t
invariant-loop-t l = (l.t ≤ 8) × (l.p ≡ l.at + l.t * l.step) × (l.places ≡ steps_put l.i l.at l.step l.t l.initial.places)

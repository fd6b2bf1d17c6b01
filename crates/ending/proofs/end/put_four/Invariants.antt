use mathlib.Core.List.{[], ◌∷◌}
use Prim.Native.Nat.{◌-◌, ◌≤◌}
use Rattle.wire.specs.Wire.{ranged}
use Rattle.wire.proofs.Writers.{Left}
use Rattle.ending.specs.End.{placement_of, placements_of}
use Rattle.ending.proofs.end.put_four.Given as goal

abbrev pub invariant-loop-i : goal.invariant-loop-i
invariant-loop-i l = (l.i ≤ 4) × Left l.initial.out l.at (placements_of l.e) l.out l.p (ranged (λ k. placement_of l.e k ∷ []) l.i (4 - l.i))

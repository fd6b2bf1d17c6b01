-- The invariant: the cells so far.
use mathlib.Core.Path.{◌≡◌}
use mathlib.Core.List.{[], ◌∷◌}
use Prim.Native.Nat.{◌≤◌}
use Rattle.gather.specs.Inner.{rows_at}
use Rattle.gather.proofs.get_whole.Given as goal

abbrev pub invariant-loop-t : goal.invariant-loop-t
invariant-loop-t l = (l.t ≤ 8) × (l.cells ≡ rows_at (l.width ∷ []) l.file l.places l.i l.off l.t l.initial.cells 0 l.first)

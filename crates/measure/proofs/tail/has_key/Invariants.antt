-- The invariant: the tail begins with the key if the rest of it does with the rest.
use Prim.Native.Nat.{◌≤◌, ◌-◌}
use mathlib.Core.Path.{◌≡◌, refl, sym, ◌∙◌}
use native.Mathlib.Omega.{arith}
use borrow.Author.Tests.{eq-eqb, ne_eqb}
use lib.ListN.{drop}
use Rattle.ending.specs.Tail.{metadata_key}
use Rattle.head.specs.Table.{starts_with}
use Rattle.head.proofs.Heads.{starts_step}
use Rattle.measure.proofs.tail.has_key.Given as goal

abbrev pub invariant-loop-i : goal.invariant-loop-i
invariant-loop-i l = (l.i ≤ 11) × (starts_with metadata_key l.tail ≡ starts_with (drop l.i metadata_key) (drop l.i l.tail))

abbrev pub decreases-loop-i : goal.decreases-loop-i
decreases-loop-i l = 11 - l.i

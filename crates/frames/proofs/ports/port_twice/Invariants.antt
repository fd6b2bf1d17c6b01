-- The invariant: the answer is that of the ports to come.
use mathlib.Core.Path.{◌≡◌}
use Prim.Native.Nat.{◌≤◌}
use lib.ListN.{drop}
use Rattle.frames.specs.Judge.{port_numbers, twice}
use Rattle.frames.proofs.ports.port_twice.Given as goal

abbrev pub invariant-loop-k : goal.invariant-loop-k
invariant-loop-k l = (l.k ≤ l.columns) × (twice (port_numbers l.f) ≡ twice (drop l.k (port_numbers l.f)))

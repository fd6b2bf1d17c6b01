-- The invariant: the bytes counted, and those of the port columns to come, are all.
use mathlib.Core.Path.{◌≡◌}
use mathlib.Core.List.{map}
use Prim.Native.Nat.{◌+◌, ◌*◌, ◌≤◌}
use lib.ListN.{drop}
use Rattle.layout.specs.Columns.{sum}
use Rattle.game.specs.Frames.{ports_of, port_bytes}
use Rattle.frames.proofs.ports.presence_bytes.Given as goal

abbrev pub invariant-loop-k : goal.invariant-loop-k
invariant-loop-k l =
    (l.k ≤ l.columns) × (l.n ≤ 262144 * l.k) × (l.n + sum (map port_bytes (drop l.k (ports_of l.f))) ≡ sum (map port_bytes (ports_of l.f)))

-- The invariant: the bytes from the k-th on are left.
use Prim.Native.Nat.{◌+◌, ◌≤◌}
use lib.ListN.{length, drop}
use Rattle.wire.proofs.Writers.{Left}
use Rattle.wire.proofs.put_bytes.Given as goal

abbrev pub invariant-loop-k : goal.invariant-loop-k
invariant-loop-k l = (l.k ≤ length l.src) × Left l.initial.out l.at l.src l.out (l.at + l.k) (drop l.k l.src)

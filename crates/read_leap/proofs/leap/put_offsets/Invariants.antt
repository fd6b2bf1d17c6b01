use mathlib.Core.Path.{◌≡◌}
use mathlib.Core.Bool.{true}
use Prim.Native.Nat.{◌≤◌}
use lib.ListN.{length}
use Rattle.read_leap.specs.Inner.{offsets_put}
use Rattle.read_leap.proofs.leap.put_offsets.Given as goal

abbrev pub invariant-loop-t : goal.invariant-loop-t
invariant-loop-t l = (l.t ≤ 8) × (l.offsets ≡ offsets_put true l.t l.n l.rows l.initial.offsets) × (length l.offsets ≡ length l.initial.offsets)

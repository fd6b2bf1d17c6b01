use mathlib.Core.Path.{◌≡◌}
use Prim.Native.Nat.{◌+◌, ◌≤◌}
use lib.ListN.{length, drop}
use Rattle.format.specs.File.{index_of}
use Rattle.read_event.proofs.seats.block_of.Given as goal

abbrev pub invariant-loop-k : goal.invariant-loop-k
invariant-loop-k l = (l.k ≤ length l.numbers) × (index_of l.slot l.numbers ≡ l.k + index_of l.slot (drop l.k l.numbers))

use mathlib.Core.Path.{◌≡◌}
use Prim.Native.Nat.{ℕ, ◌≤◌, ◌<◌}
use lib.ListN.{length, get_or}
use Rattle.players.specs.Inner.{slot_in}
use Rattle.columns.specs.Columns.{slot_number}
use Rattle.read_event.proofs.numbers.numbers_of.Given as goal

abbrev pub invariant-loop-k : goal.invariant-loop-k
invariant-loop-k l = (l.k ≤ 8) × (length l.of ≡ 8) × ((j : ℕ) → j < l.k → get_or l.of j 0 ≡ slot_number (slot_in l.s j))

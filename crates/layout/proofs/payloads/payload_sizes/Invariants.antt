-- The invariant: what was chosen of the order so far stands in the array.
use mathlib.Core.Path.{◌≡◌}
use Prim.Native.Nat.{◌≤◌}
use lib.ListN.{length}
use Rattle.format.specs.declared.event.Event.TheVariants.{Payloads}
use Rattle.layout.specs.Payloads.{order, listed}
use Rattle.layout.proofs.Laws.{Collected}
use Rattle.layout.proofs.Entries.{sized_of}
use Rattle.layout.proofs.payloads.payload_sizes.Given as goal

abbrev pub invariant-loop-e : goal.invariant-loop-e
invariant-loop-e l =
    (l.len ≤ l.e-index)
    × (length l.entries ≡ 12)
    × Collected Payloads (listed l.v l.given) (sized_of l.v l.block l.actual) order l.e-index l.len l.entries

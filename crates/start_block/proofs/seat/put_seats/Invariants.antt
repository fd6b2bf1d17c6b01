use mathlib.Core.Path.{◌≡◌}
use mathlib.Core.Bool.{false}
use mathlib.Core.List.{map}
use Prim.Native.Nat.{◌≤◌}
use lib.ListN.{length, drop}
use Rattle.format.specs.Refusal.{one_of}
use Rattle.start.specs.Refusal.{bad_seat}
use Rattle.patch.specs.Patch.{patched}
use Rattle.start.specs.Block.{seats_fields}
use Rattle.start_block.proofs.seat.put_seats.Given as goal

abbrev pub invariant-loop-n : goal.invariant-loop-n
invariant-loop-n l =
    (l.n ≤ 4) × (length l.block ≡ length l.initial.block) × (one_of (map (bad_seat l.v) (drop l.n l.seats)) ≡ false)
    × (patched l.block (seats_fields l.v l.n (drop l.n l.seats)) ≡ patched l.initial.block (seats_fields l.v 0 l.seats))

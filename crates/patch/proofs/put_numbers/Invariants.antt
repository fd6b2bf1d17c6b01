-- `patch::put_numbers` meets its contract: what is left of the table makes the block what the whole table makes it.
use mathlib.Core.Path.{◌≡◌}
use Prim.Native.Nat.{◌≤◌}
use lib.ListN.{length, drop}
use Rattle.patch.specs.Patch.{patched}
use Rattle.patch.specs.Inner.{number_patches}
use Rattle.patch.proofs.put_numbers.Given as goal

abbrev pub invariant-loop-j : goal.invariant-loop-j
invariant-loop-j l =
    (l.j ≤ length l.offsets) × (length l.block ≡ length l.initial.block)
    × (patched l.block (number_patches l.at (drop l.j l.offsets) (drop l.j l.widths) (drop l.j l.values)) ≡ patched l.initial.block (number_patches l.at l.offsets l.widths l.values))

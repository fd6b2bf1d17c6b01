-- `layout::listing::widths` meets its contract: a version's columns are the first of its family's.
use mathlib.Core.Path.{◌≡◌}
use Prim.Native.Nat.{◌*◌, ◌≤◌}
use lib.ListN.{length, take}
use Rattle.layout.specs.Columns.{columns_of, sum}
use Rattle.layout.proofs.Prefix.{widths}
use Rattle.layout.proofs.listing.widths.Given as goal

abbrev pub invariant-loop-i : goal.invariant-loop-i
invariant-loop-i l =
    (l.i ≤ l.count) × (l.bytes ≤ 255 * l.i) × (length l.widths ≡ 32) × (l.bytes ≡ sum (take l.i l.widths)) × (take l.i l.widths ≡ take l.i (widths (columns_of l.f)))

-- `layout::listing::had` meets its contract: the columns from the n-th on are later than the version.
use Prim.Native.Nat.{◌≤◌}
use lib.ListN.{length}
use Rattle.layout.specs.Columns.{widths_of}
use Rattle.layout.specs.Inner.{count_of}
use Rattle.layout.proofs.listing.had.Given as goal

abbrev pub invariant-loop-n : goal.invariant-loop-n
invariant-loop-n l = (l.n ≤ count_of l.f) × (length (widths_of l.f l.v) ≤ l.n)

-- The invariant: the m widths from k on are all as the one at k.
use mathlib.Core.Path.{◌≡◌}
use Prim.Native.Nat.{◌+◌, ◌≤◌, ◌<◌}
use lib.ListN.{replicate}
use Rattle.wire.specs.Wire.{part}
use Rattle.layout.proofs.listing.alike.Given as goal

abbrev pub invariant-loop-m : goal.invariant-loop-m
invariant-loop-m l = (0 < l.m) × (l.k + l.m ≤ l.n) × (part l.widths l.k l.m ≡ replicate l.m l.w)

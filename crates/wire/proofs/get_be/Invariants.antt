-- The invariant: what is read, followed by the bytes that are left, is the number.
use mathlib.Core.Path.{◌≡◌}
use Prim.Native.Nat.{◌^◌, ◌<◌}
use lib.ListN.{drop}
use Rattle.wire.specs.Wire.{more, number, part}
use Rattle.wire.proofs.get_be.Given as goal

abbrev pub invariant-loop-b : goal.invariant-loop-b
invariant-loop-b l = (l.n < 256 ^ l.b-index) × (more l.n (drop l.b-index l.b-items) ≡ number (part l.s l.at l.width))

-- The invariant: the answers are those of what is left, and the events of the last frame are known.
use Prim.Native.Nat.{◌-◌}
use Rattle.read_order.specs.Inner.{order_of}
use Rattle.read_scan.proofs.Jumps.{Turned}
use Rattle.read_scan.proofs.frames.Given as goal

abbrev pub invariant-loop-at : goal.invariant-loop-at
invariant-loop-at l = Turned l.v (order_of l.order) l.file l.spans l.stop l.span l.first l.m l.at l.tally l.last

abbrev pub decreases-loop-at : goal.decreases-loop-at
decreases-loop-at l = l.stop - l.at

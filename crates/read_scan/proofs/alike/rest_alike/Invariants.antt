use Prim.Native.Nat.{◌-◌}
use Rattle.read_scan.proofs.Compare.{Down}
use Rattle.read_scan.proofs.alike.rest_alike.Given as goal

abbrev pub invariant-loop-e : goal.invariant-loop-e
invariant-loop-e l = Down l.file l.spans l.last l.first l.at l.step l.e

abbrev pub decreases-loop-e : goal.decreases-loop-e
decreases-loop-e l = l.at - l.e

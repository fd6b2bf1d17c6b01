use Rattle.read_scan.specs.Alike.{Starts}
use Rattle.read_scan.proofs.Compare.{Along}
use Rattle.read_scan.proofs.alike.starts_alike.Given as goal

abbrev pub invariant-loop : goal.invariant-loop
invariant-loop l = Along l.last l.step l.p l.counter × Starts l.file l.last l.step l.counter

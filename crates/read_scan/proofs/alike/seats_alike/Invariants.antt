use Rattle.read_scan.specs.Alike.{Seats}
use Rattle.read_scan.proofs.Compare.{Along}
use Rattle.read_scan.proofs.alike.seats_alike.Given as goal

abbrev pub invariant-loop : goal.invariant-loop
invariant-loop l = Along l.e l.step l.p l.counter × Seats l.file l.e l.step l.counter

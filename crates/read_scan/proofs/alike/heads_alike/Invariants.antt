use Rattle.read_scan.specs.Alike.{Heads}
use Rattle.read_scan.proofs.Compare.{Along}
use Rattle.read_scan.proofs.alike.heads_alike.Given as goal

abbrev pub invariant-loop : goal.invariant-loop
invariant-loop l = Along l.e l.step l.p l.counter × Along l.last l.step l.q l.counter × Heads l.file l.last l.e l.step l.counter

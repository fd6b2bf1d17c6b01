use Prim.Native.Nat.{◌-◌}
use Rattle.names.proofs.Texts.{PassedTo}
use Rattle.names.proofs.lines.line_start.Given as goal

abbrev pub invariant-loop : goal.invariant-loop
invariant-loop l = PassedTo l.s l.n l.at (l.n - l.counter)

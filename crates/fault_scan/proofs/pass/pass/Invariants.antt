-- The invariant: the answer is that of what is left.
use borrow.Author.Rules.{rules}
use mathlib.Core.Path.{sym, ap, ◌∙◌}
use Prim.Native.Nat.{◌+◌, ◌-◌}
use native.Mathlib.Omega.{arith}
use lib.ListN.{length}
use Rattle.fault_scan.proofs.Passing.{ahead, here_is, Passing, passing_first, passing_done, passing_wrong, passing_on}
use Rattle.fault_scan.proofs.pass.pass.Given as goal

abbrev pub invariant-loop-sizes : goal.invariant-loop-sizes
invariant-loop-sizes l = Passing l.file l.spans l.v l.whole l.first l.stop l.span l.x l.at l.events

abbrev pub decreases-loop-sizes : goal.decreases-loop-sizes
decreases-loop-sizes l = l.stop - l.at

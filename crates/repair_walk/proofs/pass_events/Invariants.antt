-- The invariant: the answer is that of what is left.
use borrow.Author.Rules.{rules}
use mathlib.Core.Path.{sym, ◌∙◌}
use Prim.Native.Nat.{◌-◌}
use native.Mathlib.Omega.{arith}
use Rattle.repair_walk.proofs.Laws.{ahead, Passing, passing_first, passing_done, passing_next}
use Rattle.repair_walk.proofs.pass_events.Given as goal

abbrev pub invariant-loop-at : goal.invariant-loop-at
invariant-loop-at l = Passing l.file l.spans l.stop l.first l.at l.events

abbrev pub decreases-loop-at : goal.decreases-loop-at
decreases-loop-at l = l.stop - l.at

-- The invariant: the span is that of the entries that are left.
use Prim.Native.Nat.{◌≤◌, ◌+◌, ◌*◌}
use mathlib.Core.Path.{◌≡◌}
use native.Mathlib.Omega.{arith}
use borrow.Author.Rules.{rules}
use Rattle.read_judge.specs.Found.{gecko_span}
use Rattle.measure.proofs.Tails.{span_from, span_all, span_here_lem, span_next, span_none}
use Rattle.measure.proofs.tail.gecko_span.Given as goal

abbrev pub invariant-loop-left : goal.invariant-loop-left
invariant-loop-left l = (l.at + 3 * l.left ≤ l.first) × (gecko_span l.file ≡ span_from l.file l.at l.left)

abbrev pub decreases-loop-left : goal.decreases-loop-left
decreases-loop-left l = l.left

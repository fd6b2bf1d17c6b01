-- The invariant: the answer is that of the slots to come.
use mathlib.Core.Path.{◌≡◌}
use Prim.Native.Nat.{◌+◌, ◌*◌, ◌≤◌}
use lib.ListN.{length}
use Rattle.grammar.specs.WellFormed.{may_come}
use Rattle.read_order.specs.Inner.{order_of, due_in}
use Rattle.read_order.proofs.due.may_come.Given as goal

abbrev pub invariant-loop-n : goal.invariant-loop-n
invariant-loop-n l = (l.p + l.n * l.span ≤ length l.file) × (may_come (order_of l.order) (due_in l.file l.span l.pre l.due) l.k ≡ may_come (order_of l.order) (due_in l.file l.span l.p l.n) l.k)

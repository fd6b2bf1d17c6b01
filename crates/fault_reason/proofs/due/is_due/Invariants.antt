-- The invariant: the answer is that of the slots to come.
use mathlib.Core.Path.{◌≡◌, refl, sym, ◌∙◌}
use Prim.Native.Nat.{◌+◌, ◌*◌, ◌≤◌}
use native.Mathlib.Omega.{arith}
use lib.ListN.{length}
use Rattle.read_order.specs.Inner.{due_in}
use Rattle.read_order.proofs.Laws.{room_go}
use Rattle.fault_reason.specs.Reason.{is_due}
use Rattle.fault_reason.proofs.Laws.{due_here, due_on, due_none}
use Rattle.fault_reason.proofs.due.is_due.Given as goal

abbrev pub invariant-loop-n : goal.invariant-loop-n
invariant-loop-n l = (l.p + l.n * l.span ≤ length l.file) × (is_due (due_in l.file l.span l.pre l.due) l.k ≡ is_due (due_in l.file l.span l.p l.n) l.k)

abbrev pub decreases-loop-n : goal.decreases-loop-n
decreases-loop-n l = l.n

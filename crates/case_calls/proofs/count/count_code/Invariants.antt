-- The invariant: the count so far, and what a run from here finds, is the count of all.
use Prim.Native.Nat.{◌-◌}
use mathlib.Core.Path.{sym, ◌∙◌}
use native.Mathlib.Omega.{arith}
use borrow.Author.Rules.{rules}
use lib.ListN.{length}
use Rattle.head.proofs.Only.{step_told}
use Rattle.head.proofs.Steps.{event_ends}
use Rattle.de.proofs.Runs.{kept}
use Rattle.case_calls.proofs.CountLaws.{Counting, starts, goes_on, ends_here}
use Rattle.case_calls.proofs.count.count_code.Given as goal

abbrev pub invariant-loop-found : goal.invariant-loop-found
invariant-loop-found l = Counting l.file l.code l.place l.n

abbrev pub decreases-loop-found : goal.decreases-loop-found
decreases-loop-found l = length l.file - l.place

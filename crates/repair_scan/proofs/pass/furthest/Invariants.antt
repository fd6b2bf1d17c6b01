-- The invariant: the answer is that of what is left.
use borrow.Author.Rules.{rules}
use mathlib.Core.Path.{refl, sym, ap, ◌∙◌}
use Prim.Native.Nat.{◌+◌, ◌-◌, ◌^◌}
use native.Mathlib.Omega.{arith}
use lib.ListN.{length, get_or}
use Rattle.grammar.specs.WellFormed.{ascending}
use Rattle.read_scan.proofs.Counting.{under_to}
use Rattle.read_scan.proofs.Turns.{tried_as}
use Rattle.read_scan.specs.declared.event.Turn.TheVariants.{Goes, Refused}
use Rattle.repair_scan.proofs.Laws.{Turning, turn_first, turn_end, turn_other, turn_refused, turn_goes}
use Rattle.repair_scan.proofs.pass.furthest.Given as goal

abbrev pub invariant-loop-at : goal.invariant-loop-at
invariant-loop-at l = Turning l.v l.file l.spans l.stop l.span l.first l.m l.at l.best l.tally

abbrev pub decreases-loop-at : goal.decreases-loop-at
decreases-loop-at l = l.stop - l.at

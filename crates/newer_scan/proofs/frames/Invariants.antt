-- The invariant: what was told of the events before a place.
use mathlib.Core.Path.{sym, ap}
use Prim.Native.Nat.{◌-◌, ◌^◌}
use native.Mathlib.Omega.{arith}
use lib.ListN.{length, get_or}
use Rattle.read_scan.proofs.Counting.{under_to}
use Rattle.newer_scan.specs.declared.event.Turn.TheVariants.{Passes, Goes, Ends, Refused}
use Rattle.newer_scan.proofs.Tries.{turned_as}
use Rattle.newer_scan.proofs.Runs.{Going, going_first, ends_last, within, passes_on, takes_on, ends_other, fails_all}
use borrow.Author.Rules.{rules}
use Rattle.newer_scan.proofs.frames.Given as goal

abbrev pub invariant-loop-at : goal.invariant-loop-at
invariant-loop-at l = Going l.v l.file l.spans l.first l.stop l.m l.tally l.at

abbrev pub decreases-loop-at : goal.decreases-loop-at
decreases-loop-at l = l.stop - l.at

-- The invariant: the events so far are unknown.
use native.Mathlib.Omega.{arith}
use mathlib.Core.List.{List}
use Prim.Native.Nat.{◌-◌}
use Rattle.format.specs.File.{Ev}
use Rattle.read_judge.specs.Inner.{Covers}
use Rattle.newer_codes.specs.Places.{Laid}
use Rattle.newer_codes.proofs.Places.{Passing, laid_span, laid_next, pass_first, pass_next, pass_known, pass_end}
use Prim.Native.Nat.{◌-◌, ◌≤◌}
use Rattle.newer_codes.proofs.next.next_known.Given as goal

abbrev pub invariant-loop-p : goal.invariant-loop-p
invariant-loop-p l = (l.at ≤ l.p) × Laid l.file l.spans l.p l.stop × ((raw : List Ev) → Covers l.file l.spans l.at l.stop raw → Passing l.at raw l.p)

abbrev pub decreases-loop-p : goal.decreases-loop-p
decreases-loop-p l = l.stop - l.p

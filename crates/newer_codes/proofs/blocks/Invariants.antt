-- The invariant: the answer is that of what is left.
use native.Mathlib.Omega.{arith}
use mathlib.Core.List.{List}
use Prim.Native.Nat.{◌-◌, ◌*◌, ◌≤◌}
use Rattle.format.specs.File.{Ev}
use Rattle.read_judge.specs.Inner.{Covers}
use Rattle.newer_codes.specs.Places.{Laid}
use Rattle.newer_codes.proofs.Places.{laid_under}
use Rattle.newer_codes.proofs.Runs.{Going, full_next, go_first, go_next, go_done}
use mathlib.Core.Bool.{true}
use mathlib.Core.Path.{◌≡◌}
use Rattle.format.specs.declared.version.Version.{Version}
use Rattle.known.specs.Known.{is_newer}
use Rattle.newer_codes.proofs.blocks.Given as goal

abbrev pub invariant-loop-at : goal.invariant-loop-at
invariant-loop-at l = Laid l.file l.spans l.at l.stop × (517 * l.n ≤ l.at) × ((v : Version) (raw : List Ev) → is_newer v ≡ true → Covers l.file l.spans l.first l.stop raw → Going v l.first raw l.at l.n)

abbrev pub decreases-loop-at : goal.decreases-loop-at
decreases-loop-at l = l.stop - l.at

-- The invariant: what is left to copy makes all.
use native.Mathlib.Omega.{arith}
use mathlib.Core.List.{List}
use mathlib.Core.Path.{◌≡◌}
use Prim.Native.Nat.{◌-◌, ◌≤◌}
use lib.ListN.{length}
use Rattle.grammar.specs.Productions.{Block}
use Rattle.read_outline.proofs.Laws.{room_part, wrote_part}
use Rattle.newer_codes.specs.Codes.{BlocksLie}
use Rattle.newer_codes.proofs.Copies.{Copying, Turn, copy_first, copy_laid, copy_turn, copy_room, copy_next, copy_done, all_room}
use Rattle.newer_codes.proofs.copy_codes.Given as goal

abbrev pub invariant-loop-b : goal.invariant-loop-b
invariant-loop-b l = (l.b ≤ l.blocks) × ((bs : List Block) → BlocksLie l.file l.spans l.first l.stop bs → l.blocks ≡ length bs → Copying l.file l.spans l.stop l.blocks l.initial.codes bs l.codes l.at l.p l.b)

abbrev pub decreases-loop-b : goal.decreases-loop-b
decreases-loop-b l = l.blocks - l.b

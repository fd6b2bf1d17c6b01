-- `read_start::text::text_at` meets its contract: what is left of the text ends it.
use mathlib.Core.Path.{◌≡◌, ◌∙◌}
use Prim.Native.Nat.{ℕ, ◌-◌, ◌≤◌}
use native.Mathlib.Omega.{arith}
use lib.ListN.{length, length-set, length-replicate}
use Rattle.read_start.specs.Start.{text_at}
use Rattle.read_start.proofs.Texts.{ends, left, text_start, text_step, text_stop_lem, text_done}
use Rattle.read_start.proofs.text.text_at.Given as goal

abbrev pub invariant-loop-i : goal.invariant-loop-i
invariant-loop-i l = (l.i ≤ l.limit) × (length l.bytes ≡ 50) × (ends l.bytes l.i (left l.block l.at l.limit l.i) ≡ text_at l.block l.at l.limit)

abbrev pub decreases-loop-i : goal.decreases-loop-i
decreases-loop-i l = l.limit - l.i

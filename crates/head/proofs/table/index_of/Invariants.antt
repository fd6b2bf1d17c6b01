-- The invariant: no code stands twice among the entries from i on, and they are indexed.
use mathlib.Core.Path.{◌≡◌}
use lib.ListN.{length}
use Rattle.head.proofs.Heads.{Once}
use Rattle.head.proofs.table.index_of.Given as goal

abbrev pub invariant-loop-i : goal.invariant-loop-i
invariant-loop-i l = (length l.spans ≡ length l.initial.spans) × (length l.spans ≡ 256) × Once l.spans l.t l.i

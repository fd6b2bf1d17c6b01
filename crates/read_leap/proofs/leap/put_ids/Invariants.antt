use mathlib.Core.Path.{◌≡◌}
use Prim.Native.Nat.{◌+◌, ◌*◌, ◌≤◌}
use lib.ListN.{length}
use Rattle.read_leap.specs.Inner.{ids_put}
use Rattle.read_leap.proofs.leap.put_ids.Given as goal

abbrev pub invariant-loop-t : goal.invariant-loop-t
invariant-loop-t l = (l.t ≤ 8) × (l.p ≡ l.at + l.t * l.step) × (l.ids ≡ ids_put l.file l.at l.step l.t l.n l.initial.ids) × (length l.ids ≡ length l.initial.ids)

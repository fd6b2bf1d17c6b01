-- The invariant: what is left to write is the kept rows from i on.
use mathlib.Core.Path.{sym}
use Prim.Native.Nat.{◌-◌, ◌≤◌}
use native.Mathlib.Omega.{arith}
use lib.ListN.{length}
use Rattle.wire.proofs.Writers.{Left, room_as, wrote_as}
use Rattle.game.specs.Held.{lent_in}
use Rattle.events.proofs.Laws.{run_is, supplied_of}
use Rattle.final_file.specs.Inner.{kept_bytes}
use Rattle.final_file.proofs.Splits.{rest, start, run_room, run_step, goes_on, done}
use Rattle.final_file.proofs.runs.put_kept.Given as goal

abbrev pub invariant-loop-i : goal.invariant-loop-i
invariant-loop-i l =
    (let all = lent_in l.lent in
    (l.i ≤ length l.mask) × Left l.initial.out l.at (kept_bytes l.mask l.f all) l.out l.p (rest l.mask l.f all l.i))

abbrev pub decreases-loop-i : goal.decreases-loop-i
decreases-loop-i l = length l.mask - l.i

-- `events::frame::put_run` meets its contract: what is left to write are the frames from i on and before b.
use Prim.Native.Nat.{◌-◌, ◌≤◌}
use Rattle.wire.specs.Wire.{ranged}
use Rattle.wire.proofs.Writers.{Left}
use Rattle.game.specs.Held.{lent_in}
use Rattle.events.specs.Inner.{frame_bytes}
use Rattle.events.proofs.frame.put_run.Given as goal

abbrev pub invariant-loop-i : goal.invariant-loop-i
invariant-loop-i l =
    let all = lent_in l.lent in
    (l.i ≤ l.b) × Left l.initial.out l.at (ranged (frame_bytes l.shapes l.s all) l.a (l.b - l.a)) l.out l.p (ranged (frame_bytes l.shapes l.s all) l.i (l.b - l.i))

abbrev pub decreases-loop-i : goal.decreases-loop-i
decreases-loop-i l = l.b - l.i

use Prim.Native.Nat.{◌+◌, ◌≤◌, ◌<◌}
use Rattle.read_scan.proofs.Leaps.{Running}
use Rattle.read_scan.proofs.leap.leapt.Given as goal

abbrev pub invariant-loop : goal.invariant-loop
invariant-loop l = Running l.file (l.at + l.step) l.step l.initial.old l.initial.y l.old l.y l.p l.counter × (0 < l.y.frames) × (l.counter ≤ 7)

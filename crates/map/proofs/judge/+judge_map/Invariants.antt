use Prim.Native.Nat.{◌-◌}
use Rattle.map.specs.Inner.{number_if}
use Rattle.map.proofs.Judging.{Judging}
use Rattle.map.proofs.judge.+judge_map.Given as goal

abbrev pub decreases-judge_map : goal.decreases-judge_map
decreases-judge_map l = l.depth

abbrev pub invariant-loop : goal.invariant-loop
invariant-loop l = Judging l.rows l.texts l.depth l.i l.count l.k (l.count - l.counter) l.bytes (number_if l.wrong)

use Rattle.map.proofs.KeyLaws.{Skipping}
use Rattle.map.proofs.keys.+skip_rows.Given as goal

abbrev pub decreases-skip_rows : goal.decreases-skip_rows
decreases-skip_rows l = l.depth

abbrev pub invariant-loop : goal.invariant-loop
invariant-loop l = Skipping l.rows l.depth l.i l.count l.k l.counter

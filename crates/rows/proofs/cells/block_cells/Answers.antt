use native.Mathlib.Omega.{arith}
use Rattle.rows.proofs.Records.{first_none, first_more}
use Rattle.rows.proofs.cells.block_cells.Goals as goal
use Rattle.rows.proofs.cells.block_cells.Goals.{In-loop-k}

pub loop-k-init : goal.loop-k-init
loop-k-init c = (omega arith, first_none _)

pub loop-k-preserved : goal.loop-k-preserved
loop-k-preserved c =
    let l = c.loop-k in
    (omega arith, rw l.invariant.1 (first_more _ l.k (omega arith)))

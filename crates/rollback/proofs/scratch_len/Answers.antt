use mathlib.Core.Path.{◌≡◌}
use native.Mathlib.Omega.{arith}
use lib.ListN.{drop, drop_of_length-le}
use Rattle.rollback.specs.Mask.{needed}
use Rattle.rollback.proofs.Places.{needed_more}
use Rattle.rollback.proofs.scratch_len.Goals as goal
use Rattle.rollback.proofs.scratch_len.Goals.{then-most-p, else-most-p}

pub loop-cell-preserved : goal.loop-cell-preserved
loop-cell-preserved c =
    let m = needed_more c.args.ids.now c.loop-cell.cell-index (omega arith) in
    let p = c.place_of-p.ensures.0 in
    let q = c.place_of-p.ensures.1 in
    elim c.if-most-p.branch [ then-most-p w ↦ (omega arith, omega arith) | else-most-p w ↦ (omega arith, omega arith) ]

pub returns : goal.returns
unfolding needed
returns c =
    let l = c.loop-cell in
    let ids = c.args.ids.now in
    let e : needed (drop l.cell-index ids) ≡ 0 = rw (drop_of_length-le ids {i = l.cell-index} (omega arith)) in
    omega arith

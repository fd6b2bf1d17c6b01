use native.Mathlib.Omega.{arith}
use Rattle.rows_given.proofs.Low.{kept}
use Rattle.rows_given.proofs.given.given_cells.Goals as goal

pub returns : goal.returns
returns c =
    let fits = c.shared_slice_known-1 in
    kept _ _ _ (λ k. omega (arith, (fits.given k).fits)) c.columns-n.ensures.0 c.filled.ensures c.narrow.ensures

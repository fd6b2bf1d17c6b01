use native.Mathlib.Omega.{arith}
use Rattle.index_form.proofs.Laws.{stands_is}
use Rattle.index_form.proofs.stands_at.Goals as goal

pub returns : goal.returns
returns c = let a = c.args in stands_is a.index.now a.at a.v (λ i. (c.shared_slice_known-1.given i).fits) (omega arith) c.get_be.result c.get_be.ensures (omega arith)

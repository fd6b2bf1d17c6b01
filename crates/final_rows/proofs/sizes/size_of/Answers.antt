use native.Mathlib.Omega.{arith}
use Rattle.final_rows.proofs.Lengths.{size_is, size_none}
use Rattle.final_rows.proofs.sizes.size_of.Goals as goal

pub returns-then-exists : goal.returns-then-exists
returns-then-exists c = (size_is _ _ _ _ c.exists.ensures c.if-exists.true c.record_size.ensures.0, omega arith)

pub returns : goal.returns
returns c = (size_none _ _ _ c.exists.ensures c.if-exists.false, omega arith)

use native.Mathlib.Omega.{arith}
use Rattle.read_order.proofs.Laws.{before_other, before_same}
use Rattle.read_order.proofs.due.stands_anyhow.Goals as goal

pub returns-then-j-k : goal.returns-then-j-k
returns-then-j-k c = let a = c.args in before_other a.right a.j a.k (omega arith)

pub returns : goal.returns
returns c = let a = c.args in before_same a.right a.j a.k (omega arith)

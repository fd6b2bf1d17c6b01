use native.Mathlib.Omega.{arith}
use Rattle.read_order.proofs.Steps.{inside_is, inside_not}
use Rattle.read_order.proofs.stage.is_inside.Goals as goal

pub returns-then-m-rank : goal.returns-then-m-rank
returns-then-m-rank c = let a = c.args in inside_is a.m a.rank a.w (omega arith)

pub returns : goal.returns
returns c = let a = c.args in inside_not a.m a.rank a.w (omega arith)

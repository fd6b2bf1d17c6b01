use native.Mathlib.Omega.{arith}
use Rattle.read_order.specs.Inner.{slot_at}
use Rattle.read_order.proofs.due.slot_at.Goals as goal

pub returns : goal.returns
unfolding slot_at
returns c = (omega arith, omega arith)

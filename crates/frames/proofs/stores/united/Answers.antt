use native.Mathlib.Omega.{arith}
use Rattle.frames.proofs.CellLaws.{unite_start, unite_step, unite_done}
use Rattle.frames.proofs.stores.united.Goals as goal

pub loop-i-init : goal.loop-i-init
loop-i-init c = (omega arith, omega arith, unite_start _ _ _)

pub loop-i-preserved : goal.loop-i-preserved
loop-i-preserved c =
    (omega arith, omega arith, λ k. unite_step _ _ c.loop-i.all c.loop-i.i _ k (omega arith) c.requires.1 (c.loop-i.invariant.2 k))

pub returns : goal.returns
returns c = λ k. unite_done _ _ _ c.loop-i.i _ k (omega arith) (c.loop-i.invariant.2 k)

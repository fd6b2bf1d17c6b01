-- Assumes nothing.
use mathlib.Core.Path.{sym, ap}
use native.Mathlib.Omega.{arith}
use Rattle.rollback.specs.Inner.{turn_of}
use Rattle.rollback.specs.declared.frame.Rollbacks.{Rollbacks}
use Rattle.rollback.proofs.turn.Goals as goal

pub returns-in-ExceptLast : goal.returns-in-ExceptLast
returns-in-ExceptLast c =
    let a = c.args in
    (ap (λ (keep : Rollbacks). turn_of keep a.frames a.k) (sym c.in-ExceptLast.is), omega arith)

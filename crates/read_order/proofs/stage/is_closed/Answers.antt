use native.Mathlib.Omega.{arith}
use Rattle.read_order.proofs.Steps.{closed_due, closed_end, closed_lacks}
use Rattle.read_order.proofs.stage.is_closed.Goals as goal

pub returns-then-m-ne0 : goal.returns-then-m-ne0
returns-then-m-ne0 c = let a = c.args in closed_due a.v a.m (λ e. omega arith)

pub returns-then-exists : goal.returns-then-exists
returns-then-exists c =
    let a = c.args in
    let x = c.exists in
    closed_end a.v a.m (omega arith) x.result x.ensures c.if-exists.true

pub returns : goal.returns
returns c =
    let a = c.args in
    let x = c.exists in
    closed_lacks a.v a.m (omega arith) x.result x.ensures c.if-exists.false

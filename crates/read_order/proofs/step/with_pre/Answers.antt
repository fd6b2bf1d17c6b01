use native.Mathlib.Omega.{arith}
use Rattle.read_order.proofs.Steps.{pre_first, pre_more}
use Rattle.read_order.proofs.step.with_pre.Goals as goal

pub returns-then-m-eq0 : goal.returns-then-m-eq0
returns-then-m-eq0 c = let a = c.args in pre_first a.file.now a.span a.m a.w a.at a.next c.requires (omega arith)

pub returns : goal.returns
returns c = let a = c.args in pre_more a.file.now a.span a.m a.w a.at a.next c.requires (λ e. omega arith)

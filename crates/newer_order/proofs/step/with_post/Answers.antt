use native.Mathlib.Omega.{arith}
use Rattle.newer_order.proofs.Laws.{some_due, post_after}
use Rattle.newer_order.proofs.step.with_post.Goals as goal

pub overflow_sub-result : goal.overflow_sub-result
overflow_sub-result c = let a = c.args in let h = c.requires in omega (arith, some_due a.m a.w h.0 h.1)

pub returns : goal.returns
returns c = let a = c.args in let h = c.requires in post_after a.m a.w h.0 (some_due a.m a.w h.0 h.1)

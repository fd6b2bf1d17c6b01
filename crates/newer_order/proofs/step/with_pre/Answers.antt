use mathlib.Core.Path.{ap}
use Prim.Native.Nat.{ℕ, ◌+◌}
use native.Mathlib.Omega.{arith}
use Rattle.newer_order.proofs.Laws.{comes, shifted, sum_fits, pre_after}
use borrow.Author.Rules.{rules}
use Rattle.newer_order.proofs.step.with_pre.Goals as goal

pub overflow_add-result : goal.overflow_add-result
overflow_add-result c =
    let a = c.args in
    let h = c.requires in
    let k = c.slot-k in
    let o = comes a.m a.w h.0 h.1 in
    omega (arith, sum_fits a.m a.w h.0 o k.result k.ensures, shifted a.m a.w h.0 o k.result k.ensures)

pub returns : goal.returns
returns c =
    let a = c.args in
    let h = c.requires in
    let k = c.slot-k in
    let o = comes a.m a.w h.0 h.1 in
    pre_after a.m a.w h.0 o k.result k.ensures _ (ap (λ (n : ℕ). a.m.queue + n) (shifted a.m a.w h.0 o k.result k.ensures))

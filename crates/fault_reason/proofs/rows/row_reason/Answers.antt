use mathlib.Core.Path.{refl, sym, ap, ◌∙◌}
use native.Mathlib.Omega.{arith}
use borrow.Author.Tests.{eq-eqb, ne_eqb}
use Rattle.read_order.specs.Inner.{state_in}
use Rattle.read_scan.proofs.Same.{big}
use Rattle.fault_reason.specs.Reason.{order_reason}
use Rattle.fault_reason.proofs.Laws.{if_so, if_not}
use borrow.Author.Rules.{rules}
use Rattle.fault_reason.proofs.rows.row_reason.Goals as goal

pub word_in-w-requires : goal.word_in-w-requires
word_in-w-requires c = let a = c.args in omega (arith, big a.family a.v, c.record_size-n.ensures.0)

pub returns-then-p-n : goal.returns-then-p-n
returns-then-p-n c =
    let a = c.args in
    if_so _ _ _ _ (sym c.exists.ensures ∙ c.if-exists.true)
    (if_so _ _ _ _ (eq-eqb _ _ (c.if-p-n.true ∙ c.record_size-n.ensures.0)) (c.order_reason.ensures ∙ ap (order_reason a.v (state_in a.file.now a.span a.m) a.family) c.word_in-w.ensures))

pub returns-then-exists : goal.returns-then-exists
returns-then-exists c = if_so _ _ _ _ (sym c.exists.ensures ∙ c.if-exists.true) (if_not _ _ _ _ (ne_eqb _ _ (λ e. c.if-p-n.false (e ∙ sym c.record_size-n.ensures.0))) refl)

pub returns : goal.returns
returns c = if_not _ _ _ _ (sym c.exists.ensures ∙ c.if-exists.false) refl

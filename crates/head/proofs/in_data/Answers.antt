use borrow.Author.Tests.{ltb-false}
use native.Mathlib.Omega.{arith}
use mathlib.Core.Logic.{⊎_elim}
use mathlib.Core.Path.{sym, ◌∙◌}
use Rattle.head.proofs.Steps.{before_data, past_data, at_end, inside, opened_step, opened_span}
use Rattle.head.proofs.in_data.Goals as goal

pub returns-then-place-first : goal.returns-then-place-first
returns-then-place-first c = (
  sym
      (opened_step c.requires c.args.place
      ∙ ⊎_elim (λ w. before_data _ _ _ _ _ _ w) (λ w. past_data _ _ _ _ _ _ w.0 w.1) c.then-place-first.either),
  tt,
)

pub returns-then-whole : goal.returns-then-whole
returns-then-whole c =
    (sym (opened_step c.requires c.args.place ∙ at_end _ _ _ _ _ _ (omega arith) c.if-place-stop.true ∙ rw c.if-whole.true), tt)

pub returns-else-whole : goal.returns-else-whole
returns-else-whole c =
    (sym (opened_step c.requires c.args.place ∙ at_end _ _ _ _ _ _ (omega arith) c.if-place-stop.true ∙ rw c.if-whole.false), tt)

pub returns : goal.returns
returns c =
    let e = c.span_at.ensures ∙ opened_span c.requires c.args.place (omega (arith, c.shared_slice_known-5-1.given c.args.place)) in
    (c.event_at.ensures.0 ∙ rw e (sym (opened_step c.requires c.args.place ∙ inside _ _ _ _ _ _ (omega arith) (omega (arith, ltb-false)))), c.event_at.ensures.1)

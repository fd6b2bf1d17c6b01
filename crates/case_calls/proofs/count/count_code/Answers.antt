use Prim.Native.Nat.{◌-◌}
use mathlib.Core.Path.{sym, ◌∙◌}
use native.Mathlib.Omega.{arith}
use borrow.Author.Rules.{rules}
use lib.ListN.{length}
use Rattle.head.proofs.Only.{step_told}
use Rattle.head.proofs.Steps.{event_ends}
use Rattle.de.proofs.Runs.{no_event}
use Rattle.case_calls.proofs.CountLaws.{Counting, starts, goes_on, ends_here}
use Rattle.case_calls.proofs.count.count_code.Goals as goal

pub returns-in_default : goal.returns-in_default
returns-in_default c =
    let s = c.step_at-step in
    ends_here _ _ _ _ _ c.loop-found.invariant (no_event s.result c.in_default.not-Event) (sym (step_told s.result _ s.ensures))

pub one_more-n-requires : goal.one_more-n-requires
one_more-n-requires c =
    let h = event_ends _ _ _ _ _ _ _ (sym (step_told _ _ c.step_at-step.ensures) ∙ c.in-Event.is) in
    omega (arith, h, c.loop-found.invariant.few)

pub loop-found-smaller : goal.loop-found-smaller
loop-found-smaller c =
    let h = event_ends _ _ _ _ _ _ _ (sym (step_told _ _ c.step_at-step.ensures) ∙ c.in-Event.is) in
    omega (arith, h)

pub loop-found-preserved : goal.loop-found-preserved
loop-found-preserved c =
    goes_on _ _ _ _ _ _ _ _ _ _ c.loop-found.invariant
    (sym (step_told _ _ c.step_at-step.ensures) ∙ c.in-Event.is) c.one_more-n.ensures

pub loop-found-init : goal.loop-found-init
loop-found-init c = starts _ _ _ c.first_place-place.ensures

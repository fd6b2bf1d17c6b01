use native.Mathlib.Omega.{arith}
use Rattle.newer_ends.proofs.Tests.{right_next}
use Rattle.newer_ends.proofs.Found.{ends_none, ends_wrong, ends_one, ends_two, ends_unlike}
use borrow.Author.Rules.{rules}
use Rattle.newer_ends.proofs.ends.Goals as goal

pub returns-then-one-stop : goal.returns-then-one-stop
returns-then-one-stop c = λ raw d. ends_none _ c.requires.0 _ _ _ _ raw d _ (c.next_known-one.ensures.2 raw d) c.if-one-stop.true

pub next_known-two-requires : goal.next_known-two-requires
next_known-two-requires c = right_next _ _ _ _ _ c.next_known-one.ensures.1 _ c.is_right.ensures.0 c.if-is_right.true _ c.span_of.ensures.0

pub returns-then-two-stop : goal.returns-then-two-stop
returns-then-two-stop c =
    let h = c.requires in
    let r = c.is_right.ensures in
    let t = c.if-is_right.true in
    λ raw d.
    ends_one _ h.0 _ _ _ _ raw d _ (c.next_known-one.ensures.2 raw d) c.if-one-stop.false _ r.0 t _ c.span_of.ensures.0 (omega (arith, (r.1 t).0, (r.1 t).1, h.2)) _
    c.next_known-two.ensures.2
    c.if-two-stop.true

pub is_again-requires : goal.is_again-requires
is_again-requires c = let h = c.requires in let b = c.is_right.ensures.1 c.if-is_right.true in (c.next_known-two.ensures.1, omega (arith, b.0, b.1, h.2))

pub returns-then-is_again : goal.returns-then-is_again
returns-then-is_again c =
    let h = c.requires in
    let r = c.is_right.ensures in
    let t = c.if-is_right.true in
    λ raw d.
    ends_two _ h.0 _ _ _ _ raw d _ (c.next_known-one.ensures.2 raw d) c.if-one-stop.false _ r.0 t _ c.span_of.ensures.0 (omega (arith, (r.1 t).0, (r.1 t).1, h.2)) _
    c.next_known-two.ensures.2
    c.if-two-stop.false
    _
    c.is_again.ensures
    c.if-is_again.true

pub returns-else-is_again : goal.returns-else-is_again
returns-else-is_again c =
    let h = c.requires in
    let r = c.is_right.ensures in
    let t = c.if-is_right.true in
    λ raw d.
    ends_unlike _ h.0 _ _ _ _ raw d _ (c.next_known-one.ensures.2 raw d) c.if-one-stop.false _ r.0 t _ c.span_of.ensures.0 (omega (arith, (r.1 t).0, (r.1 t).1, h.2)) _
    c.next_known-two.ensures.2
    c.if-two-stop.false
    _
    c.is_again.ensures
    c.if-is_again.false

pub returns-else-is_right : goal.returns-else-is_right
returns-else-is_right c = λ raw d. ends_wrong _ c.requires.0 _ _ _ _ raw d _ (c.next_known-one.ensures.2 raw d) c.if-one-stop.false _ c.is_right.ensures.0 c.if-is_right.false

-- `start::judge::has_bad_seat` meets its contract: one seat after another.
use mathlib.Core.Path.{refl, sym, ◌∙◌}
use native.Mathlib.Omega.{arith}
use Rattle.format.proofs.Tests.{rest_here, rest_skip, rest_none}
use Rattle.start.specs.Refusal.{bad_seat}
use Rattle.start.proofs.judge.has_bad_seat.Goals as goal

pub returns-then-is_bad_seat : goal.returns-then-is_bad_seat
returns-then-is_bad_seat c =
    let a = c.args in
    rest_here _ (bad_seat a.v) _ a.seats 0 (omega arith) (sym c.is_bad_seat.ensures ∙ c.if-is_bad_seat.true) refl

pub returns-then-is_bad_seat-2 : goal.returns-then-is_bad_seat-2
returns-then-is_bad_seat-2 c =
    let a = c.args in
    rest_here _ (bad_seat a.v) _ a.seats 1 (omega arith) (sym c.is_bad_seat-2.ensures ∙ c.if-is_bad_seat-2.true) (rest_skip _ (bad_seat a.v) _ a.seats 0 (omega arith) (sym c.is_bad_seat.ensures ∙ c.if-is_bad_seat.false) refl)

pub returns-then-is_bad_seat-3 : goal.returns-then-is_bad_seat-3
returns-then-is_bad_seat-3 c =
    let a = c.args in
    rest_here _ (bad_seat a.v) _ a.seats 2 (omega arith) (sym c.is_bad_seat-3.ensures ∙ c.if-is_bad_seat-3.true)
    (rest_skip _ (bad_seat a.v) _ a.seats 1 (omega arith) (sym c.is_bad_seat-2.ensures ∙ c.if-is_bad_seat-2.false) (rest_skip _ (bad_seat a.v) _ a.seats 0 (omega arith) (sym c.is_bad_seat.ensures ∙ c.if-is_bad_seat.false) refl))

pub returns-then-is_bad_seat-4 : goal.returns-then-is_bad_seat-4
returns-then-is_bad_seat-4 c =
    let a = c.args in
    rest_here _ (bad_seat a.v) _ a.seats 3 (omega arith) (sym c.is_bad_seat-4.ensures ∙ c.if-is_bad_seat-4.true) (rest_skip _ (bad_seat a.v) _ a.seats 2 (omega arith)
    (sym c.is_bad_seat-3.ensures ∙ c.if-is_bad_seat-3.false) (rest_skip _ (bad_seat a.v) _ a.seats 1 (omega arith)
    (sym c.is_bad_seat-2.ensures ∙ c.if-is_bad_seat-2.false)
    (rest_skip _ (bad_seat a.v) _ a.seats 0 (omega arith) (sym c.is_bad_seat.ensures ∙ c.if-is_bad_seat.false) refl)))

pub returns : goal.returns
returns c =
    let a = c.args in
    rest_none (bad_seat a.v) _ a.seats 4 (omega arith) (rest_skip _ (bad_seat a.v) _ a.seats 3 (omega arith) (sym c.is_bad_seat-4.ensures ∙ c.if-is_bad_seat-4.false)
    (rest_skip _ (bad_seat a.v) _ a.seats 2 (omega arith) (sym c.is_bad_seat-3.ensures ∙ c.if-is_bad_seat-3.false)
    (rest_skip _ (bad_seat a.v) _ a.seats 1 (omega arith) (sym c.is_bad_seat-2.ensures ∙ c.if-is_bad_seat-2.false)
    (rest_skip _ (bad_seat a.v) _ a.seats 0 (omega arith) (sym c.is_bad_seat.ensures ∙ c.if-is_bad_seat.false) refl))))

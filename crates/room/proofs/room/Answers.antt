use mathlib.Core.Path.{sym, ap, ◌∙◌}
use Rattle.format.specs.Refused.{number_in}
use native.Mathlib.Omega.{arith}
use Rattle.room.specs.Inner.{Bounded}
use Rattle.room.proofs.Laws.{numbered, unrefused, bounded, refused_as_lem, reserved_as, room_is}
use Rattle.room.proofs.room.Goals as goal
use Rattle.room.proofs.room.Goals.{After-struct_known-1}

pub returns-in-Err : goal.returns-in-Err
returns-in-Err c =
    let number = c.number.ensures ∙ sym (ap number_in c.in-Err.is) in
    refused_as_lem c.args.p _ (number ∙ c.judge.ensures) (λ e. numbered _ (sym c.number.ensures ∙ e))

pub table_len-table-requires : goal.table_len-table-requires
table_len-table-requires c = bounded _ (sym c.judge.ensures ∙ unrefused _ c.in_default.not-Err)

pub events_len-events-requires : goal.events_len-events-requires
events_len-events-requires c = bounded _ (sym c.judge.ensures ∙ unrefused _ c.in_default.not-Err)

-- the plan is not refused
abbrev within : (c : After-struct_known-1) → Type 0
within c = Bounded c.args.p

within-is : (c : After-struct_known-1) → within c
within-is c = bounded _ (sym c.judge.ensures ∙ unrefused _ c.in_default.not-Err)

pub returns : goal.returns
returns c =
    reserved_as c.args.p _ _ c.judge.ensures (unrefused _ c.in_default.not-Err)
    (room_is _ c.table_len-table.ensures.0 c.events_len-events.ensures.0)

pub overflow_add-result : goal.overflow_add-result
overflow_add-result c = omega (arith, within-is c)

pub overflow_add-result-2 : goal.overflow_add-result-2
overflow_add-result-2 c = omega (arith, within-is c)

pub overflow_add-result-3 : goal.overflow_add-result-3
overflow_add-result-3 c = omega (arith, within-is c)

pub overflow_add-result-4 : goal.overflow_add-result-4
overflow_add-result-4 c = omega (arith, within-is c)

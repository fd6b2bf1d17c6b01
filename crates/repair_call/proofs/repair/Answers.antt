use borrow.Author.Rules.{rules}
use mathlib.Core.Path.{sym, subst, refl}
use Rattle.repair_call.specs.Outcome.{RepairOutcome}
use Rattle.repair_call.proofs.Laws.{holds, outcome_refused, outcome_short, room_for, outcome_found}
use Rattle.repair_call.proofs.repair.Goals as goal

pub returns-then-m-ne0 : goal.returns-then-m-ne0
returns-then-m-ne0 c =
    let a = c.args in
    let m = c.measure_repair-m in
    outcome_refused a.file.now a.out.now m.result m.ensures c.if-m-ne0.true

pub returns-then-out-m : goal.returns-then-out-m
returns-then-out-m c =
    let a = c.args in
    let m = c.measure_repair-m in
    let h = holds a.file.now a.out.now m.result m.ensures c.if-m-ne0.false in
    subst (λ r. RepairOutcome a.file.now a.out.now r a.out.now) (sym c.refused.ensures) (outcome_short a.file.now a.out.now m.result h c.if-out-m.true)

pub put_repaired-requires : goal.put_repaired-requires
put_repaired-requires c =
    let a = c.args in
    let m = c.measure_repair-m in
    let h = holds a.file.now a.out.now m.result m.ensures c.if-m-ne0.false in
    room_for a.file.now a.out.now m.result h c.if-out-m.false

pub returns : goal.returns
returns c =
    let a = c.args in
    let m = c.measure_repair-m in
    let h = holds a.file.now a.out.now m.result m.ensures c.if-m-ne0.false in
    outcome_found a.file.now a.out.now m.result h c.if-out-m.false _ c.put_repaired.ensures

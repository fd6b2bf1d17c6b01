use borrow.Author.Rules.{rules}
use mathlib.Core.Path.{sym, subst}
use Rattle.repair_call.specs.Outcome.{RepairMeasured}
use Rattle.repair_call.proofs.Laws.{judged_refused, judged_told, judged_found}
use Rattle.repair_call.proofs.measure_repair.Goals as goal

pub returns-then-j-ne0 : goal.returns-then-j-ne0
returns-then-j-ne0 c =
    let j = c.judge-j in
    subst (RepairMeasured c.args.file.now) (sym c.refused.ensures) (judged_refused c.args.file.now _ j.result j.ensures c.if-j-ne0.true)

pub described-requires : goal.described-requires
described-requires c = let j = c.judge-j in judged_told c.args.file.now _ j.result j.ensures c.if-j-ne0.false

pub returns : goal.returns
returns c =
    let j = c.judge-j in
    judged_found c.args.file.now _ j.result j.ensures c.if-j-ne0.false c.described.result c.described.ensures

use mathlib.Core.Bool.{not}
use mathlib.Core.Path.{ap}
use borrow.Author.Rules.{rules}
use native.Mathlib.Omega.{arith}
use Rattle.repair_judge.proofs.Laws.{first_in, other_first, too_new_lem, opening_so}
use Rattle.repair_judge.proofs.judge_events.Goals as goal

pub first_event-e-requires : goal.first_event-e-requires
first_event-e-requires c =
    let b = first_in c.args.file.now c.args.spans.now c.args.first c.requires in
    (b.0, omega arith, b.1)

pub returns-in_default : goal.returns-in_default
returns-in_default c =
    let a = c.args in
    let e = c.first_event-e in
    other_first a.file.now a.spans.now a.first c.requires e.result e.ensures c.in_default.is

pub returns-then-not-accepted : goal.returns-then-not-accepted
returns-then-not-accepted c =
    let a = c.args in
    let e = c.first_event-e in
    let x = c.accepted in
    too_new_lem a.file.now a.spans.now a.first c.requires c.in-Opens.version c.in-Opens.len e.result e.ensures c.in-Opens.is x.result x.ensures (ap not c.if-not-accepted.true)

pub judge_kept-requires : goal.judge_kept-requires
judge_kept-requires c =
    let a = c.args in
    let e = c.first_event-e in
    let x = c.accepted in
    opening_so a.file.now a.spans.now a.first c.requires c.in-Opens.version c.in-Opens.len e.result e.ensures c.in-Opens.is x.result x.ensures (ap not c.if-not-accepted.false)

pub returns : goal.returns
returns c = c.judge_kept.ensures

use borrow.Author.Rules.{rules}
use mathlib.Core.Path.{sym, ◌∙◌, subst}
use Rattle.read_judge.proofs.StartLaws.{not_taken, not_left}
use Rattle.read_judge.specs.Inner.{JudgesFirst}
use Rattle.read_judge.proofs.Steps.{started, opens_not, too_new_lem, not_held, cut, counted}
use Rattle.read_judge.proofs.judge_events.Goals as goal

pub first_event-e-requires : goal.first_event-e-requires
first_event-e-requires c = (c.requires.starts, c.requires.within, c.requires.many)

pub unless_walk_refused-requires : goal.unless_walk_refused-requires
unless_walk_refused-requires c k =
    let a = c.args in
    let e = c.first_event-e in
    opens_not a.file.now a.spans.now a.first a.stop a.whole c.requires k e.result e.ensures c.in_default.is

pub unless_walk_refused-requires-then-not-accepted : goal.unless_walk_refused-requires-then-not-accepted
unless_walk_refused-requires-then-not-accepted c k =
    let a = c.args in
    let e = c.first_event-e in
    let x = c.accepted in
    too_new_lem a.file.now a.spans.now a.first a.stop a.whole c.requires k c.in-Opens.version c.in-Opens.len e.result e.ensures c.in-Opens.is (sym x.ensures ∙ c.if-not-accepted.true)

pub unless_walk_refused-requires-then-not-whole : goal.unless_walk_refused-requires-then-not-whole
unless_walk_refused-requires-then-not-whole c k =
    let a = c.args in
    let e = c.first_event-e in
    let x = c.accepted in
    cut a.file.now a.spans.now a.first a.stop a.whole c.requires k c.in-Opens.version c.in-Opens.len e.result e.ensures c.in-Opens.is (sym x.ensures ∙ c.if-not-accepted.false) c.if-not-whole.true

pub judge_parts-j-requires : goal.judge_parts-j-requires
judge_parts-j-requires c =
    let a = c.args in
    let e = c.first_event-e in
    let x = c.accepted in
    started a.file.now a.spans.now a.first a.stop a.whole c.requires c.if-not-whole.false c.in-Opens.version c.in-Opens.len e.result e.ensures c.in-Opens.is
    (sym x.ensures ∙ c.if-not-accepted.false)

pub unless_walk_refused-requires-in_default-j : goal.unless_walk_refused-requires-in_default-j
unless_walk_refused-requires-in_default-j c k =
    let a = c.args in
    let e = c.first_event-e in
    let x = c.accepted in
    let j = c.judge_parts-j in
    not_held a.file.now a.spans.now a.first a.stop a.whole c.requires k c.in-Opens.version c.in-Opens.len e.result e.ensures c.in-Opens.is
    (sym x.ensures ∙ c.if-not-accepted.false)
    (subst (JudgesFirst a.file.now a.first a.stop) c.in_default-j.is j.ensures k)

pub judge_counts-requires : goal.judge_counts-requires
judge_counts-requires c =
    let a = c.args in
    let e = c.first_event-e in
    let x = c.accepted in
    let j = c.judge_parts-j in
    let all = subst (JudgesFirst a.file.now a.first a.stop) c.in-Held.is j.ensures in
    counted a.file.now a.spans.now a.first a.stop a.whole c.requires all.0 c.in-Opens.version c.in-Opens.len e.result e.ensures c.in-Opens.is (sym x.ensures ∙ c.if-not-accepted.false) c.in-Held.parts all.1

pub returns-in_default : goal.returns-in_default
returns-in_default c = c.unless_walk_refused.ensures

pub returns-then-not-accepted : goal.returns-then-not-accepted
returns-then-not-accepted c = c.unless_walk_refused-then-not-accepted.ensures

pub returns-then-not-whole : goal.returns-then-not-whole
returns-then-not-whole c = c.unless_walk_refused-then-not-whole.ensures

pub returns-in_default-j : goal.returns-in_default-j
returns-in_default-j c = c.unless_walk_refused-in_default-j.ensures

pub returns : goal.returns
returns c = c.judge_counts.ensures

use borrow.Author.Rules.{rules}
use native.Mathlib.Omega.{arith}
use mathlib.Core.Path.{subst}
use Rattle.read_judge.proofs.StartLaws.{not_taken, not_left}
use Rattle.newer_judge.specs.Inner.{JudgesNewer}
use Rattle.newer_judge.proofs.Steps.{opens_never, indexed, too_new_lem, is_newer_lem, not_held, cut, ready, counted, tells_as}
use Rattle.newer_judge.proofs.judge_events.Goals as goal

pub first_event-e-requires : goal.first_event-e-requires
first_event-e-requires c = let h = c.requires.headed in (h.starts, h.within, h.many)

pub returns-in_default : goal.returns-in_default
returns-in_default c =
    let a = c.args in
    let e = c.first_event-e in
    absurd (opens_never a.file.now a.spans.now a.first a.stop a.whole c.requires e.result e.ensures c.in_default.is)

pub returns-then-version-gt3 : goal.returns-then-version-gt3
returns-then-version-gt3 c =
    let a = c.args in
    let e = c.first_event-e in
    tells_as a.file.now c.refused-then-version-gt3.result _ c.refused-then-version-gt3.ensures
    (too_new_lem a.file.now a.spans.now a.first a.stop a.whole c.requires c.in-Opens.version c.in-Opens.len e.result e.ensures c.in-Opens.is c.if-version-gt3.true)

pub returns-then-not-whole : goal.returns-then-not-whole
returns-then-not-whole c =
    let a = c.args in
    let e = c.first_event-e in
    tells_as a.file.now c.refused-then-not-whole.result _ c.refused-then-not-whole.ensures
    (cut a.file.now a.spans.now a.first a.stop a.whole c.requires c.in-Opens.version c.in-Opens.len e.result e.ensures c.in-Opens.is (omega (arith, c.if-version-gt3.false))
    c.if-not-whole.true)

pub judge_parts-j-requires : goal.judge_parts-j-requires
judge_parts-j-requires c =
    let a = c.args in
    let e = c.first_event-e in (
      ready a.file.now a.spans.now a.first a.stop a.whole c.requires c.in-Opens.version c.in-Opens.len e.result e.ensures c.in-Opens.is (omega (arith, c.if-version-gt3.false)) c.if-not-whole.false,
      indexed a.file.now a.spans.now a.first a.stop a.whole c.requires,
      is_newer_lem a.file.now a.spans.now a.first a.stop a.whole c.requires c.in-Opens.version c.in-Opens.len e.result e.ensures c.in-Opens.is (omega (arith, c.if-version-gt3.false)),
    )

pub returns-in_default-j : goal.returns-in_default-j
returns-in_default-j c =
    let a = c.args in
    let e = c.first_event-e in
    let j = c.judge_parts-j in
    tells_as a.file.now c.refused-in_default-j.result _ c.refused-in_default-j.ensures
    (not_held a.file.now a.spans.now a.first a.stop a.whole c.requires c.in-Opens.version c.in-Opens.len e.result e.ensures c.in-Opens.is (omega (arith, c.if-version-gt3.false))
    (subst (JudgesNewer a.file.now a.first) c.in_default-j.is j.ensures))

pub judge_counts-requires : goal.judge_counts-requires
judge_counts-requires c =
    let a = c.args in
    let e = c.first_event-e in
    let j = c.judge_parts-j in
    counted a.file.now a.spans.now a.first a.stop a.whole c.requires c.in-Opens.version c.in-Opens.len e.result e.ensures c.in-Opens.is (omega (arith, c.if-version-gt3.false)) c.in-Held.parts
    (subst (JudgesNewer a.file.now a.first) c.in-Held.is j.ensures)

pub returns : goal.returns
returns c = c.judge_counts.ensures

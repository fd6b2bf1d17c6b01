use borrow.Author.Rules.{rules}
use native.Mathlib.Omega.{arith}
use mathlib.Core.Path.{sym, ◌∙◌}
use Rattle.read_judge.proofs.StartLaws.{not_taken, not_left}
use Rattle.check_file.proofs.Laws.{opens_not, too_new_lem, cut, start_within, place_within, events_sound, events_wrong}
use Rattle.check_file.proofs.check_events.Goals as goal

pub first_event-e-requires : goal.first_event-e-requires
first_event-e-requires c = (c.requires.starts, c.requires.within, c.requires.many)

pub unless_walk_refused-requires : goal.unless_walk_refused-requires
unless_walk_refused-requires c k =
    let a = c.args in
    let e = c.first_event-e in
    opens_not a.file.now a.spans.now a.first a.stop a.whole c.requires k e.result e.ensures c.in_default.is

pub unless_walk_refused-requires-then-not-accepted : goal.unless_walk_refused-requires-then-not-accepted
unless_walk_refused-requires-then-not-accepted c k =
    let a = c.args in
    let e = c.first_event-e in
    let x = c.accepted in
    too_new_lem a.file.now a.spans.now a.first a.stop a.whole c.requires k c.in-Opens.version c.in-Opens.len e.result e.ensures c.in-Opens.is (sym x.ensures ∙ c.if-not-accepted.true)

pub unless_walk_refused-requires-then-not-whole : goal.unless_walk_refused-requires-then-not-whole
unless_walk_refused-requires-then-not-whole c k =
    let a = c.args in
    let e = c.first_event-e in
    let x = c.accepted in
    cut a.file.now a.spans.now a.first a.stop a.whole c.requires k c.in-Opens.version c.in-Opens.len e.result e.ensures c.in-Opens.is (sym x.ensures ∙ c.if-not-accepted.false) c.if-not-whole.true

pub overflow_add-at-2 : goal.overflow_add-at-2
overflow_add-at-2 c =
    let a = c.args in
    let e = c.first_event-e in
    omega (arith, start_within a.file.now a.spans.now a.first a.stop a.whole c.requires c.if-not-whole.false c.in-Opens.version c.in-Opens.len e.result e.ensures c.in-Opens.is, c.ranges.stop.fits)

pub is_sound-requires : goal.is_sound-requires
is_sound-requires c =
    let a = c.args in
    let e = c.first_event-e in
    place_within a.file.now a.spans.now a.first a.stop a.whole c.requires c.if-not-whole.false c.in-Opens.version c.in-Opens.len e.result e.ensures c.in-Opens.is

pub check_tail-requires : goal.check_tail-requires
check_tail-requires c =
    let a = c.args in
    let e = c.first_event-e in
    let x = c.accepted in
    let r = c.is_sound in (
      events_sound a.file.now a.spans.now a.first a.stop a.whole c.requires c.if-not-whole.false c.in-Opens.version c.in-Opens.len
          e.result e.ensures c.in-Opens.is (sym x.ensures ∙ c.if-not-accepted.false) r.result r.ensures c.if-is_sound.true,
      c.requires.stop_is,
    )

pub unless_walk_refused-requires-2 : goal.unless_walk_refused-requires-2
unless_walk_refused-requires-2 c k =
    let a = c.args in
    let e = c.first_event-e in
    let x = c.accepted in
    let r = c.is_sound in
    events_wrong a.file.now a.spans.now a.first a.stop a.whole c.requires c.if-not-whole.false c.in-Opens.version c.in-Opens.len
    e.result e.ensures c.in-Opens.is (sym x.ensures ∙ c.if-not-accepted.false) r.result r.ensures c.if-is_sound.false k

pub returns-in_default : goal.returns-in_default
returns-in_default c = c.unless_walk_refused.ensures

pub returns-then-not-accepted : goal.returns-then-not-accepted
returns-then-not-accepted c = c.unless_walk_refused-then-not-accepted.ensures

pub returns-then-not-whole : goal.returns-then-not-whole
returns-then-not-whole c = c.unless_walk_refused-then-not-whole.ensures

pub returns-then-is_sound : goal.returns-then-is_sound
returns-then-is_sound c = c.check_tail.ensures

pub returns : goal.returns
returns c = c.unless_walk_refused-2.ensures

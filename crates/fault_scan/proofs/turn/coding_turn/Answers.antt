use lib.ListN.{get_or}
use Rattle.format.specs.Event.{code_of}
use Rattle.format.specs.declared.event.Event.TheVariants.{GeckoCodes}
use native.Mathlib.Omega.{arith}
use Rattle.fault_scan.specs.Inner.{ev_at}
use Rattle.fault_scan.proofs.Turns.{known_none, coding_frames, coding_unlisted, coding_open}
use borrow.Author.Rules.{rules}
use Rattle.fault_scan.proofs.turn.coding_turn.Goals as goal

pub frames_turn-requires : goal.frames_turn-requires
frames_turn-requires c =
    let a = c.args in
    let h = c.requires in
    (h.0, known_none a.v a.file.now a.span a.stop c.outset.result c.outset.ensures c.nothing.result c.nothing.ensures a.at (omega (arith, h.0.later, h.0.ends)) h.0.long h.0.span_is, h.2, h.3)

pub returns-then-listed_right : goal.returns-then-listed_right
returns-then-listed_right c =
    let a = c.args in
    coding_frames a.v a.file.now a.span a.stop (get_or a.spans.now (code_of GeckoCodes) 0) a.n (ev_at a.file.now a.at a.next) a.next c.if-file-at-eq-MESSAGE_SPLITTER.false c.if-n-eq0.true c.listed_right.result c.listed_right.ensures
    c.if-listed_right.true c.outset.result c.outset.ensures c.nothing.result c.nothing.ensures c.frames_turn.result c.frames_turn.ensures

pub returns-then-n-eq0 : goal.returns-then-n-eq0
returns-then-n-eq0 c =
    let a = c.args in
    coding_unlisted a.v a.file.now a.span a.stop (get_or a.spans.now (code_of GeckoCodes) 0) a.n (ev_at a.file.now a.at a.next) a.next c.if-file-at-eq-MESSAGE_SPLITTER.false c.if-n-eq0.true c.listed_right.result c.listed_right.ensures c.if-listed_right.false

pub returns : goal.returns
returns c =
    let a = c.args in
    coding_open a.v a.file.now a.span a.stop (get_or a.spans.now (code_of GeckoCodes) 0) a.n (ev_at a.file.now a.at a.next) a.next c.if-file-at-eq-MESSAGE_SPLITTER.false c.if-n-eq0.false c.other_reason-reason.result c.other_reason-reason.ensures

use Rattle.fault_scan.specs.declared.standing.Turned.TheVariants.{Wrong}
use lib.ListN.{get_or}
use Rattle.format.specs.Event.{code_of}
use Rattle.format.specs.declared.event.Event.TheVariants.{GeckoCodes}
use Rattle.fault_scan.specs.Inner.{ev_at}
use Rattle.read_order.specs.Inner.{state_in}
use Rattle.fault_scan.specs.declared.standing.Standing.TheVariants.{Coding, Framing, Ending, Over}
use Rattle.fault_scan.proofs.Turns.{framing_turns, turns_as, fits_as, over_wrong}
use borrow.Author.Rules.{rules}
use Rattle.fault_scan.proofs.turn.turn.Goals as goal

pub coding_turn-requires : goal.coding_turn-requires
coding_turn-requires c =
    let a = c.args in
    let h = c.requires in
    (h.0, fits_as a.v a.file.now a.span a.stop (get_or a.spans.now (code_of GeckoCodes) 0) (ev_at a.file.now a.at a.next) a.next a.x (Coding c.in-Coding.blocks) c.in-Coding.is a.at h.1, h.2, h.3)

pub frames_turn-requires : goal.frames_turn-requires
frames_turn-requires c =
    let a = c.args in
    let h = c.requires in
    (h.0, fits_as a.v a.file.now a.span a.stop (get_or a.spans.now (code_of GeckoCodes) 0) (ev_at a.file.now a.at a.next) a.next a.x (Framing c.in-Framing.stage c.in-Framing.tally) c.in-Framing.is a.at h.1, h.2, h.3)

pub ending_turn-requires : goal.ending_turn-requires
ending_turn-requires c =
    let a = c.args in
    let h = c.requires in
    (h.0, fits_as a.v a.file.now a.span a.stop (get_or a.spans.now (code_of GeckoCodes) 0) (ev_at a.file.now a.at a.next) a.next a.x (Ending c.in-Ending.place) c.in-Ending.is a.at h.1)

pub returns-in-Coding : goal.returns-in-Coding
returns-in-Coding c =
    let a = c.args in
    turns_as a.v a.file.now a.span a.stop (get_or a.spans.now (code_of GeckoCodes) 0) (ev_at a.file.now a.at a.next) a.next a.x (Coding c.in-Coding.blocks) c.in-Coding.is c.coding_turn.result c.coding_turn.ensures

pub returns-in-Framing : goal.returns-in-Framing
returns-in-Framing c =
    let a = c.args in
    turns_as a.v a.file.now a.span a.stop (get_or a.spans.now (code_of GeckoCodes) 0) (ev_at a.file.now a.at a.next) a.next a.x (Framing c.in-Framing.stage c.in-Framing.tally) c.in-Framing.is c.frames_turn.result
    (framing_turns a.v a.file.now a.span a.stop (get_or a.spans.now (code_of GeckoCodes) 0) (ev_at a.file.now a.at a.next) a.next (state_in a.file.now a.span c.in-Framing.stage) c.in-Framing.tally c.frames_turn.result c.frames_turn.ensures)

pub returns-in-Ending : goal.returns-in-Ending
returns-in-Ending c =
    let a = c.args in
    turns_as a.v a.file.now a.span a.stop (get_or a.spans.now (code_of GeckoCodes) 0) (ev_at a.file.now a.at a.next) a.next a.x (Ending c.in-Ending.place) c.in-Ending.is c.ending_turn.result c.ending_turn.ensures

pub returns-in-Over : goal.returns-in-Over
returns-in-Over c =
    let a = c.args in
    turns_as a.v a.file.now a.span a.stop (get_or a.spans.now (code_of GeckoCodes) 0) (ev_at a.file.now a.at a.next) a.next a.x Over c.in-Over.is (Wrong c.third_reason-reason.result)
    (over_wrong a.v a.file.now a.span a.stop (get_or a.spans.now (code_of GeckoCodes) 0) (ev_at a.file.now a.at a.next) a.next c.third_reason-reason.result c.third_reason-reason.ensures)

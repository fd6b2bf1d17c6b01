use mathlib.Core.Path.{sym, ◌∙◌}
use Rattle.read_order.specs.Inner.{state_in}
use Rattle.fault_scan.specs.Inner.{ev_at}
use Rattle.fault_scan.proofs.Turns.{frames_row, frames_row_not, frames_end, frames_end_not}
use borrow.Author.Rules.{rules}
use Rattle.fault_scan.proofs.turn.frames_turn.Goals as goal

pub row_turn-r-requires : goal.row_turn-r-requires
row_turn-r-requires c = let h = c.requires in (h.0, h.1, h.2, sym c.kind_of-k.ensures ∙ c.in-Frame.is, h.3)

pub returns-in-Goes : goal.returns-in-Goes
returns-in-Goes c =
    let a = c.args in
    frames_row a.v a.file.now a.span a.stop (state_in a.file.now a.span a.m) a.t (ev_at a.file.now a.at a.next) a.next c.in-Frame.family (sym c.kind_of-k.ensures ∙ c.in-Frame.is) c.row_turn-r.result c.row_turn-r.ensures c.in-Goes.stage c.in-Goes.tally c.in-Goes.is

pub returns-in-Wrong : goal.returns-in-Wrong
returns-in-Wrong c =
    let a = c.args in
    frames_row_not a.v a.file.now a.span a.stop (state_in a.file.now a.span a.m) a.t (ev_at a.file.now a.at a.next) a.next c.in-Frame.family (sym c.kind_of-k.ensures ∙ c.in-Frame.is) c.row_turn-r.result c.row_turn-r.ensures c.in-Wrong.reason c.in-Wrong.is

pub returns-in-Comes : goal.returns-in-Comes
returns-in-Comes c =
    let a = c.args in
    frames_end a.v a.file.now a.spans.now a.span a.stop a.at a.next c.requires.0 (state_in a.file.now a.span a.m) a.t (sym c.kind_of-k.ensures ∙ c.in-Other.is) c.end_turn-c.result c.end_turn-c.ensures c.in-Comes.is

pub returns-in-Wrong-c : goal.returns-in-Wrong-c
returns-in-Wrong-c c =
    let a = c.args in
    frames_end_not a.v a.file.now a.span a.stop (state_in a.file.now a.span a.m) a.t (ev_at a.file.now a.at a.next) a.next (sym c.kind_of-k.ensures ∙ c.in-Other.is) c.end_turn-c.result c.end_turn-c.ensures c.in-Wrong-c.reason c.in-Wrong-c.is

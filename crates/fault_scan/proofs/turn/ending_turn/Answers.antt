use lib.ListN.{get_or}
use Rattle.format.specs.Event.{code_of}
use Rattle.format.specs.declared.event.Event.TheVariants.{GeckoCodes}
use native.Mathlib.Omega.{arith}
use Prim.Native.Nat.{◌+◌, ◌-◌}
use Rattle.fault_scan.specs.Inner.{ev_at}
use Rattle.fault_scan.proofs.Turns.{ending_over, ending_wrong}
use borrow.Author.Rules.{rules}
use Rattle.fault_scan.proofs.turn.ending_turn.Goals as goal

pub returns-in-Comes : goal.returns-in-Comes
returns-in-Comes c =
    let a = c.args in
    ending_over a.v a.file.now a.span a.stop (get_or a.spans.now (code_of GeckoCodes) 0) (ev_at a.file.now a.at a.next) a.next a.place (a.place + 1 + c.end_size-size.result - (a.place + 1)) (omega (arith, c.end_size-size.ensures.0))
    c.second_end-c.result c.second_end-c.ensures c.in-Comes.is

pub returns-in-Wrong : goal.returns-in-Wrong
returns-in-Wrong c =
    let a = c.args in
    ending_wrong a.v a.file.now a.span a.stop (get_or a.spans.now (code_of GeckoCodes) 0) (ev_at a.file.now a.at a.next) a.next a.place (a.place + 1 + c.end_size-size.result - (a.place + 1))
    (omega (arith, c.end_size-size.ensures.0)) c.second_end-c.result c.second_end-c.ensures c.in-Wrong.reason c.in-Wrong.is
